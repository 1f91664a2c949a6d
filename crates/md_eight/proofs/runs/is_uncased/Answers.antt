-- One test of a bit for each flag that the definition names. Assumes nothing.
use Rattle.md_eight.specs.Inner.Runs.{is_uncased}
use Rattle.md_eight.proofs.runs.is_uncased.Goals as goal

pub returns : goal.returns
unfolding is_uncased
returns c = cc
