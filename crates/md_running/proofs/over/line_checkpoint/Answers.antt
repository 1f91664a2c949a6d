-- Each length has one of three periods, and each return has that period in it. Assumes nothing.
use borrow.Author.Tests.{le-leb, lt-leb}
use Rattle.md_meaning.specs.Text.{checkpoint, period}
use Rattle.md_running.proofs.over.line_checkpoint.Goals as goal

pub returns-then-n-le-SHORT_LENGTH : goal.returns-then-n-le-SHORT_LENGTH
unfolding checkpoint period
returns-then-n-le-SHORT_LENGTH c = simp (le-leb _ _ c.if-n-le-SHORT_LENGTH.true)

pub returns-then-n-le-MIDDLE_LENGTH : goal.returns-then-n-le-MIDDLE_LENGTH
unfolding checkpoint period
returns-then-n-le-MIDDLE_LENGTH c = simp (lt-leb _ _ c.if-n-le-SHORT_LENGTH.false, le-leb _ _ c.if-n-le-MIDDLE_LENGTH.true)

pub returns : goal.returns
unfolding checkpoint period
returns c = simp (lt-leb _ _ c.if-n-le-SHORT_LENGTH.false, lt-leb _ _ c.if-n-le-MIDDLE_LENGTH.false)
