-- The sum of the state's ratios. Assumes nothing.
use Rattle.md_meaning.specs.Scan.{sum_of}
use mathlib.Core.Path.{ap, ◌∙◌}
use Rattle.ratio.specs.Eight.{sum}
use Rattle.md.proofs.scan.sum_of.Goals as goal

pub returns : goal.returns
unfolding sum_of
returns c = c.sum.ensures ∙ ap sum c.ratios.ensures
