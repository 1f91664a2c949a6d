-- The fraction of small counts is proper, so it has an f32. Assumes nothing.
use mathlib.Core.Path.{ap, ◌∙◌}
use Rattle.ratio.specs.Rounded.{rounded}
use Rattle.ratio.proofs.Laws.Fraction.{fraction_proper}
use Rattle.ratio.proofs.rounding.ratio_of.Goals as goal

pub rounded-requires : goal.rounded-requires
rounded-requires c = rw c.fraction_of.ensures (fraction_proper c.args.c c.requires)

pub returns : goal.returns
returns c = c.rounded.ensures ∙ ap rounded c.fraction_of.ensures
