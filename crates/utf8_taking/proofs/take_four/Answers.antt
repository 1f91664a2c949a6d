-- A sequence of four is taken, or none stands there. Assumes nothing.
use mathlib.Core.Path.{sym, ◌∙◌}
use native.Mathlib.Omega.{arith}
use Rattle.utf8_taking.proofs.Loops.Taking.{taken_none, taken_four, none_four}
use Rattle.utf8_taking.proofs.take_four.Goals as goal

pub returns-then-not-is_four : goal.returns-then-not-is_four
returns-then-not-is_four c =
    let p = c.requires in
    record {
      taken = taken_none _ _ _ _ (omega (arith, p.0.left));
      none = λ e. none_four _ _ p.0.left p.1 (sym c.is_four.ensures ∙ c.if-not-is_four.true);
    }

pub four_at-requires : goal.four_at-requires
four_at-requires c =
    let p = c.requires in
    (taken_four _ _ _ _ _ _ _ (taken_none _ _ _ _ (omega (arith, p.0.left))) p.0 p.0.left p.1
    (sym c.is_four.ensures ∙ c.if-not-is_four.false)).fits

pub returns : goal.returns
returns c =
    let p = c.requires in
    rw c.four_at.ensures
    (record {
      taken =
          (taken_four _ _ _ _ _ _ _ (taken_none _ _ _ _ (omega (arith, p.0.left))) p.0 p.0.left p.1
          (sym c.is_four.ensures ∙ c.if-not-is_four.false)).next;
      none = λ e. absurd (omega (arith, e));
    })
