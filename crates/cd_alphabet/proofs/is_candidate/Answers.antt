-- One call of the test of a fraction.
-- Assumes nothing.
use Rattle.cd_alphabet.specs.Alphabet.{is_candidate}
use Rattle.cd_alphabet.proofs.is_candidate.Goals as goal

pub returns : goal.returns
unfolding is_candidate
returns c = cc
