-- Where `all` is true, the characters passed are scalar values. Assumes nothing.
use Rattle.md_rest.proofs.Loops.Whole.{valued_more}
use Rattle.md_rest.proofs.whole.all_valued.Goals as goal

pub loop-i-preserved : goal.loop-i-preserved
loop-i-preserved c = valued_more _ _ _ _ c.loop-i.invariant c.loop-i-test.true
