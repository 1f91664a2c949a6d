-- Bit 24 and a range, as in the definition. Assumes nothing.
use Rattle.cd_taken_meaning.specs.Taken.{is_taken}
use Rattle.cd_taken.proofs.is_taken.Goals as goal

pub returns : goal.returns
unfolding is_taken
returns c = cc
