-- The first i places hold the bytes of the first i code points (`Copying`). Assumes nothing.
use mathlib.Core.Path.{refl}
use Rattle.page.proofs.Loops.Copying.{copying_start, copying_more, copying_end}
use Rattle.page.proofs.inverse.bytes_into.Goals as goal

pub loop-i-init : goal.loop-i-init
loop-i-init c = copying_start c.requires.0

pub loop-i-preserved : goal.loop-i-preserved
loop-i-preserved c = copying_more c.loop-i.invariant c.loop-i-test.true _ refl

pub returns : goal.returns
returns c = copying_end c.loop-i.invariant c.loop-i-test.false
