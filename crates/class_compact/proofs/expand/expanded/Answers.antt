-- The shared bytes and the letters are laid over zeros, each in its place. Assumes nothing.
use Rattle.base.proofs.Laws.Tests.{within_lo}
use Rattle.class_compact_meaning.proofs.Laws.Unpacked.{expanded_with, expanded_without}
use Rattle.class_compact.proofs.expand.expanded.Goals as goal

pub overflow_sub-at : goal.overflow_sub-at
overflow_sub-at c = within_lo 1 _ _ c.if-place-letters.true

pub returns-then-place-letters : goal.returns-then-place-letters
returns-then-place-letters c =
    expanded_with _ _ _ _ _ c.requires c.place_of-place.ensures.is c.lay.ensures _ c.if-place-letters.true c.lay-then-place-letters.ensures

pub returns : goal.returns
returns c =
    expanded_without _ _ _ _ _ c.requires c.place_of-place.ensures.is c.lay.ensures c.if-place-letters.false
