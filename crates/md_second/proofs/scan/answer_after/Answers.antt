-- The answer of the counts after n characters. Assumes nothing.
use Rattle.md_meaning.specs.Scan.{scored, sum_of}
use Rattle.md_second.specs.Inner.Listed.{answered}
use Rattle.md_second.proofs.Laws.After.{eight_small}
use mathlib.Core.Path.{◌∙◌}
use Rattle.md_second.proofs.scan.answer_after.Goals as goal

pub second_answer-requires : goal.second_answer-requires
second_answer-requires c =
    rw c.eight_after.ensures (eight_small _ _ _ _ _ _ c.requires)

pub returns : goal.returns
unfolding answered scored sum_of
returns c = c.second_answer.ensures ∙ rw c.eight_after.ensures
