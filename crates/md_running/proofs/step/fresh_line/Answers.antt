-- The definition's record, the watched start being md_growth's. Assumes nothing.
use Rattle.md_running_meaning.specs.Opening.{fresh}
use Rattle.md_running.proofs.step.fresh_line.Goals as goal

pub returns : goal.returns
unfolding fresh
returns c = cc
