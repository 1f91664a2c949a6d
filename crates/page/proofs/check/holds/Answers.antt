-- What was found before k, or what is in the list from k on, is what is among them all (`Looking`). Assumes nothing.
use Rattle.base.proofs.Loops.Looking.{looking_more, looking_end}
use Rattle.page.proofs.check.holds.Goals as goal

pub loop-y-preserved : goal.loop-y-preserved
loop-y-preserved c = looking_more _ _ c.loop-y.invariant c.loop-y-test.true

pub returns : goal.returns
returns c = looking_end _ _ c.loop-y.invariant c.loop-y-test.false
