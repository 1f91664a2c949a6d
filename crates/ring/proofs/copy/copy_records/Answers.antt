-- The first i records stand at the front of the output, and the rest is as it was. Assumes nothing.
use mathlib.Core.Path.{refl}
use Rattle.ring.proofs.Loops.Copying.{copying_start, copying_more, copying_end}
use Rattle.ring.proofs.copy.copy_records.Goals as goal

pub loop-i-init : goal.loop-i-init
loop-i-init c = copying_start _ _ _ _ c.requires.0 c.requires.1

pub loop-i-preserved : goal.loop-i-preserved
loop-i-preserved c =
    copying_more _ _ _ _ c.loop-i.invariant c.loop-i-test.true _ c.wrapped-from.ensures _ refl _ c.put_bytes.ensures

pub returns : goal.returns
returns c = copying_end _ _ _ _ c.loop-i.invariant c.loop-i-test.false
