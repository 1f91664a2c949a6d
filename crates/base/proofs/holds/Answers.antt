-- What was found before the element, or what is in the list from it on, is what is among them all (`Looking`). Assumes nothing.
use Rattle.base.proofs.Loops.Looking.{looking_start, looking_more, looking_end}
use Rattle.base.proofs.holds.Goals as goal

pub loop-y-init : goal.loop-y-init
loop-y-init c = looking_start _ _

pub loop-y-preserved : goal.loop-y-preserved
loop-y-preserved c = looking_more _ _ c.loop-y.invariant c.loop-y-test.true

pub returns : goal.returns
returns c = looking_end _ _ c.loop-y.invariant c.loop-y-test.false
