-- The four tests, each in its words; letters that are not bad are used, so that their place has 16 bits. Assumes nothing.
use Rattle.class_compact_meaning.proofs.Laws.Own.{told}
use mathlib.Core.Path.{refl}
use Rattle.class_compact.proofs.fault.bad_letters.Goals as goal

pub is_early-requires : goal.is_early-requires
is_early-requires c = c.first_use-here.ensures.is

pub returns : goal.returns
returns c =
    rw c.is_early.ensures
    (told _ _ _ _ _ _ _ _ c.base_at-base.ensures c.lower_at-lower.ensures c.first_use-here.ensures c.find_letters.ensures refl)
