-- The filled area is split, the split one read, and each layer read has the letters that 01 gives it; the cleared area has nothing left of them. Assumes nothing.
use native.Mathlib.Omega.{arith}
use Rattle.cd_meaning.proofs.Laws.Coherence.{fill_room, split_needs, split_room, room_after, undotted_after, few_layers, standing_tallies, ranked_is, cleared_is}
use Rattle.cd.proofs.rank_text.Goals as goal

pub fill_area-requires : goal.fill_area-requires
fill_area-requires c =
    (c.requires.tables.good, c.slots-slots.ensures, rw c.slots-slots.ensures (fill_room _ _ _ _ _ c.args.work.now c.requires))

pub alpha_unicode_split-count-requires : goal.alpha_unicode_split-count-requires
alpha_unicode_split-count-requires c =
    rw (c.slots-slots.ensures, c.fill_area.ensures) (split_needs _ _ _ _ _ _ c.requires)

pub read_layers-standing-requires : goal.read_layers-standing-requires
read_layers-standing-requires c =
    let split = rw (c.slots-slots.ensures, c.fill_area.ensures) at c.alpha_unicode_split-count.ensures in (
      c.requires.comparable,
      rw c.slots-slots.ensures (room_after _ _ _ _ _ _ c.requires split),
      rw c.slots-slots.ensures (undotted_after _ _ _ _ _ _ c.requires split),
      few_layers _ _ _ _ _ _ c.requires split,
    )

pub overflow_mul-text : goal.overflow_mul-text
overflow_mul-text c =
    omega (arith, c.requires.short)

pub clear-requires : goal.clear-requires
clear-requires c =
    let split = rw (c.slots-slots.ensures, c.fill_area.ensures) at c.alpha_unicode_split-count.ensures in
    omega (arith, split_room _ _ _ _ _ _ c.requires split, c.read_layers-standing.ensures.1.size, c.requires.enough)

pub ranking_of-requires : goal.ranking_of-requires
ranking_of-requires c =
    let split = rw (c.slots-slots.ensures, c.fill_area.ensures) at c.alpha_unicode_split-count.ensures in
    let read = rw c.slots-slots.ensures at c.read_layers-standing.ensures.0 in
    (c.requires.comparable.languages, rw read (standing_tallies _ _ _ _ _ _ c.requires split _ _).holds)

pub returns : goal.returns
returns c =
    let split = rw (c.slots-slots.ensures, c.fill_area.ensures) at c.alpha_unicode_split-count.ensures in
    let read = rw c.slots-slots.ensures at c.read_layers-standing.ensures in
    (ranked_is _ _ _ _ _ _ c.requires split _ _ _ (rw read.0 at c.ranking_of.ensures), cleared_is _ _ _ _ _ _ c.requires split read.1 c.clear.ensures)
