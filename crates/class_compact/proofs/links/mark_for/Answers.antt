-- The same number, and a remainder is below what is divided by. Assumes nothing.
use Rattle.class_compact_meaning.specs.Inner.Links.{mark_of}
use mathlib.Core.Path.{refl}
use native.Mathlib.Omega.{arith}
use Rattle.class_compact.proofs.links.mark_for.Goals as goal

pub returns : goal.returns
unfolding mark_of
returns c = record { is = refl; small = omega arith }
