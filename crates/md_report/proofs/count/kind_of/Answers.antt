-- Its two ways are the definition's two. Assumes nothing.
use native.Mathlib.Omega.{arith}
use borrow.Author.Tests.{lt-ltb, le-ltb}
use Rattle.md_report_meaning.specs.Bins.{kind_of}
use Rattle.md_report.proofs.count.kind_of.Goals as goal

pub returns-then-number-gt-LAST_NUMBER : goal.returns-then-number-gt-LAST_NUMBER
unfolding kind_of
returns-then-number-gt-LAST_NUMBER c = record { is = simp (lt-ltb _ _ c.if-number-gt-LAST_NUMBER.true); small = omega arith }

pub returns-else-number-gt-LAST_NUMBER : goal.returns-else-number-gt-LAST_NUMBER
unfolding kind_of
returns-else-number-gt-LAST_NUMBER c = record { is = simp (le-ltb _ _ c.if-number-gt-LAST_NUMBER.false); small = omega (arith, c.if-number-gt-LAST_NUMBER.false) }
