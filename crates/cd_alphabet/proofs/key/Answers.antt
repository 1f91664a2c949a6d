-- A share is at most 65536 parts, so that nothing is taken below 0.
-- Assumes nothing.
use Rattle.cd_alphabet.specs.Inner.Key.{key_of}
use Rattle.cd_alphabet.proofs.Laws.Candidates.{parts_most}
use Rattle.cd_alphabet.proofs.key.Goals as goal

pub overflow_sub-result : goal.overflow_sub-result
overflow_sub-result c = parts_most c.args.f c.requires.0

pub returns : goal.returns
unfolding key_of
returns c = cc
