-- The tests say so. Assumes nothing.
use Rattle.std.proofs.Common.{arith}
use Rattle.md_runs.proofs.Laws.Runs.{untrue, spaced_is}
use Rattle.md_runs.proofs.before_space.Goals as goal

pub overflow_sub-i : goal.overflow_sub-i
overflow_sub-i c = omega (arith, c.requires)

pub returns-then-at_checkpoint : goal.returns-then-at_checkpoint
returns-then-at_checkpoint c = λ e. untrue e

pub returns-then-i-text : goal.returns-then-i-text
returns-then-i-text c =
    λ e. spaced_is _ _ _ c.at_checkpoint.ensures c.if-at_checkpoint.false c.if-i-text.true e

pub returns : goal.returns
returns c = λ e. untrue e
