-- Without a mark there is none, as is required; else all entries before it are looked at. Assumes nothing.
use mathlib.Core.Path.{sym}
use Rattle.page.proofs.check.is_repeated.Goals as goal

pub returns-then-not-marked : goal.returns-then-not-marked
returns-then-not-marked c = sym (c.requires.1 c.if-not-marked.true)

pub returns : goal.returns
returns c = c.holds.ensures
