-- A whole table has a class for every scalar value; of a short rest, or with another table, nothing is said. Assumes nothing.
use mathlib.Core.Path.{◌∙◌, sym}
use native.Mathlib.Omega.{arith}
use Rattle.md_rest.proofs.Loops.Whole.{known_nothing, known_valued}
use Rattle.md_rest.proofs.whole.all_known.Goals as goal

pub overflow_add-from : goal.overflow_add-from
overflow_add-from c = omega (arith, c.requires.1, c.requires.2)

pub returns-then-text-from : goal.returns-then-text-from
returns-then-text-from c = known_nothing _ _ _

pub sizes-requires : goal.sizes-requires
sizes-requires c = c.requires.0

pub returns-then-sizes-eq-PAST_BUILTIN : goal.returns-then-sizes-eq-PAST_BUILTIN
returns-then-sizes-eq-PAST_BUILTIN c =
    known_valued _ _ _ c.requires.0 _ (sym c.sizes.ensures ∙ c.if-sizes-eq-PAST_BUILTIN.true) c.all_valued.ensures

pub returns : goal.returns
returns c = known_nothing _ _ _
