-- The eight comparisons, in the order of the definition. Assumes nothing.
use mathlib.Core.Path.{refl}
use Rattle.base.specs.First.{each}
use Rattle.md_reason_meaning.specs.Greatest.{at_least_all}
use Rattle.md_reason.proofs.greatest.at_least_all.Goals as goal

pub returns : goal.returns
unfolding at_least_all each
returns c = refl
