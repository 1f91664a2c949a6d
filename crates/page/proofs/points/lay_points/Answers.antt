-- The code points of the first b bytes are laid out (`Laying`). Assumes nothing.
use Rattle.page.proofs.Loops.Laying.{laying_more, laying_end}
use Rattle.page.proofs.points.lay_points.Goals as goal

pub loop-b-preserved : goal.loop-b-preserved
loop-b-preserved c = laying_more _ _ _ c.loop-b.invariant c.loop-b-test.true _ c.point_of.ensures

pub returns : goal.returns
returns c = laying_end _ _ _ c.loop-b.invariant c.loop-b-test.false
