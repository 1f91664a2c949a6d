-- The ratios, their sum and what is shown are made of the counts once. Assumes nothing.
use Rattle.md_second.specs.Inner.Listed.{answered}
use Rattle.md_second.proofs.scan.second_answer.Goals as goal

pub returns : goal.returns
unfolding answered
returns c = simp (c.eight_shown.ensures, c.sum.ensures, c.ratios-ratios.ensures)
