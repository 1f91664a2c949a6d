-- One test of a bit for each flag that the definition names. Assumes nothing.
use Rattle.md_eight.specs.Inner.Runs.{is_plain}
use Rattle.md_eight.proofs.runs.is_plain.Goals as goal

pub returns : goal.returns
unfolding is_plain
returns c = cc
