-- Each return is one of the definition's cases, by the tests that led to it. Assumes nothing.
use mathlib.Core.Path.{◌∙◌, sym}
use native.Mathlib.Omega.{arith}
use borrow.Author.Tests.{eq-eqb, ne_eqb, lt-ltb, le-ltb}
use Rattle.md_report_meaning.specs.Bins.{parts, bin_of}
use Rattle.md_report.proofs.count.bin_of.Goals as goal

pub returns-then-is_nil : goal.returns-then-is_nil
unfolding bin_of
returns-then-is_nil c = record { is = simp (sym c.is_nil.ensures ∙ c.if-is_nil.true); small = omega arith }

pub returns-then-denominator-eq0 : goal.returns-then-denominator-eq0
unfolding bin_of
returns-then-denominator-eq0 c = record { is = simp (sym c.is_nil.ensures ∙ c.if-is_nil.false, eq-eqb _ _ c.if-denominator-eq0.true); small = omega arith }

pub returns-then-b-gt-LAST_BIN : goal.returns-then-b-gt-LAST_BIN
unfolding bin_of parts
returns-then-b-gt-LAST_BIN c =
    record {
      is = simp (sym c.is_nil.ensures ∙ c.if-is_nil.false, ne_eqb _ _ c.if-denominator-eq0.false, lt-ltb _ _ c.if-b-gt-LAST_BIN.true);
      small = omega arith;
    }

pub returns-else-b-gt-LAST_BIN : goal.returns-else-b-gt-LAST_BIN
unfolding bin_of parts
returns-else-b-gt-LAST_BIN c =
    record {
      is = simp (sym c.is_nil.ensures ∙ c.if-is_nil.false, ne_eqb _ _ c.if-denominator-eq0.false, le-ltb _ _ c.if-b-gt-LAST_BIN.false);
      small = omega (arith, c.if-b-gt-LAST_BIN.false);
    }
