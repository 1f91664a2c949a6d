-- What was found before an element, or what is in the list from it on, is what is above in it all (`Looked`). Assumes nothing.
use Rattle.md_running.proofs.Loops.Above.{looked_more, looked_end}
use Rattle.md_running.proofs.state.any_above.Goals as goal

pub loop-x-preserved : goal.loop-x-preserved
loop-x-preserved c = looked_more _ _ c.loop-x.invariant c.loop-x-test.true

pub returns : goal.returns
returns c = looked_end _ _ c.loop-x.invariant c.loop-x-test.false
