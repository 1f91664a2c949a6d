-- The first i words are ranges. Assumes nothing.
use native.Mathlib.Omega.{arith}
use Rattle.replay_layers.proofs.Loops.Filling.{fill_start, fill_on, fill_end}
use Rattle.replay_layers.proofs.set_ranges.Goals as goal

pub loop-i-init : goal.loop-i-init
loop-i-init c = fill_start _ _

pub loop-i-preserved : goal.loop-i-preserved
loop-i-preserved c =
    fill_on _ _ c.loop-i.invariant c.requires.1 _ c.loop-i-test.true (omega arith)

pub returns : goal.returns
returns c = fill_end _ _ c.loop-i.invariant c.requires.1 c.loop-i-test.false
