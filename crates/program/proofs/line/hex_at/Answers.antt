-- Its two ways are the definition's two. Assumes nothing.
use borrow.Author.Tests.{lt-ltb, le-ltb}
use Rattle.program.specs.Numerals.{hex_at, hex_digit}
use Rattle.program.proofs.line.hex_at.Goals as goal

pub returns-then-d-lt10 : goal.returns-then-d-lt10
unfolding hex_at hex_digit
returns-then-d-lt10 c = simp (lt-ltb _ _ c.if-d-lt10.true)

pub returns-else-d-lt10 : goal.returns-else-d-lt10
unfolding hex_at hex_digit
returns-else-d-lt10 c = simp (le-ltb _ _ c.if-d-lt10.false)
