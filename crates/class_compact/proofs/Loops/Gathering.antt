-- The walk that packs one record after the other (`Gathering`): the first i stand in the one room, and the letters that they use in the other. Its start,
-- its step and its end.
-- Assumes nothing.
use Prim.Native.Nat.{ℕ, ◌+◌, ◌*◌, ◌≤◌, ◌<◌}
use mathlib.Core.Path.{◌≡◌, refl, sym, ap, ◌∙◌}
use mathlib.Core.List.{List}
use native.Mathlib.Omega.{arith}
use lib.ListN.{length, replicate}
use Rattle.base.specs.Limits.{MOST_CLASSES}
use Rattle.base.specs.Put.{put}
use Rattle.base.proofs.Laws.Put.{put_nothing, put_length, put_part, put_on}
use Rattle.class_records.specs.Records.{records}
use Rattle.class_compact_meaning.specs.Form.{COMPACT_RECORD, LETTERS_RECORD, letters_in, joined}
use Rattle.class_compact_meaning.specs.Packed.{new_letters, letters_before, compacted, packed_records, packed_letters}
use Rattle.class_compact_meaning.specs.Inner.Gathered.{Placed, Gathered}
use Rattle.class_compact_meaning.specs.Inner.Links.{LINKS, Linked}
use Rattle.class_compact_meaning.proofs.Laws.Links.{linked_start}
use Rattle.class_compact_meaning.proofs.Laws.Packed.{compacted_length}
use Rattle.class_compact_meaning.proofs.Laws.Numbering.{before_length, before_more, number_few}
use Rattle.class_compact.proofs.Loops.Laying.{Laying, laying_start, laying_more, laying_end}

pub record Gathering (t packed₀ used₀ packed used : List ℕ) (count : ℕ) (links : List ℕ) (i : ℕ) : Type 0 where
  pub few : records t ≤ MOST_CLASSES
  pub room : MOST_CLASSES * LETTERS_RECORD ≤ length used₀
  pub laid : Laying (compacted t) COMPACT_RECORD (records t) packed₀ packed i
  pub number : count ≡ letters_in (letters_before t i)
  pub so_far : used ≡ put used₀ 0 (letters_before t i)
  pub linked : Linked (packed_letters t) count links

module _ (t packed₀ used₀ : List ℕ) where
  pub gathering_start : records t ≤ MOST_CLASSES → MOST_CLASSES * COMPACT_RECORD ≤ length packed₀ → MOST_CLASSES * LETTERS_RECORD ≤ length used₀
      → Gathering t packed₀ used₀ packed₀ used₀ 0 (replicate LINKS 0) 0
  unfolding letters_before joined
  gathering_start h p u =
      record {
        few = h;
        room = u;
        laid = laying_start (compacted t) COMPACT_RECORD (records t) packed₀ (compacted_length t) (omega arith);
        number = refl;
        so_far = sym (put_nothing used₀ 0);
        linked = linked_start (packed_letters t);
      }

  module _ {packed used : List ℕ} {count : ℕ} {links : List ℕ} {i : ℕ} (g : Gathering t packed₀ used₀ packed used count links i) where
    fits : 0 + length (letters_before t i) ≤ length used₀
    fits = omega (arith, before_length t i, number_few t i, g.laid.below, g.few, g.room)

    gathering_length : length used ≡ length used₀
    gathering_length = ap length g.so_far ∙ put_length used₀ 0 (letters_before t i) fits

    pub gathering_placed : i < records t → Placed t i used count links
    gathering_placed h =
        record {
          inside = h;
          few = g.few;
          room = omega (arith, gathering_length, g.room);
          number = g.number;
          so_far = rw (g.number, ← before_length t i, g.so_far) (put_part used₀ 0 (letters_before t i) fits);
          linked = g.linked;
        }

    pub gathering_more : i < records t → (packed' used' : List ℕ) (count' : ℕ) (links' : List ℕ)
        → Gathered t i packed used count packed' used' count' links' → Gathering t packed₀ used₀ packed' used' count' links' (i + 1)
    gathering_more h packed' used' count' links' n =
        let y : count * LETTERS_RECORD ≡ 0 + length (letters_before t i) = omega (arith, before_length t i, g.number) in
        record {
          few = g.few;
          room = g.room;
          laid = laying_more (compacted t) COMPACT_RECORD (records t) packed₀ g.laid h (compacted t i) packed' refl n.records;
          number = n.number;
          so_far =
              n.letters
              ∙ rw (y, g.so_far) (put_on used₀ 0 (letters_before t i) (new_letters t i) fits)
              ∙ ap (put used₀ 0) (sym (before_more t i));
          linked = rw n.number n.linked;
        }

    module _ (h : records t ≤ i) where
      whole : i ≡ records t
      whole = omega (arith, g.laid.below)

      pub gathered_records : packed ≡ put packed₀ 0 (packed_records t)
      unfolding packed_records
      gathered_records = laying_end (compacted t) COMPACT_RECORD (records t) packed₀ g.laid h

      pub gathered_letters : used ≡ put used₀ 0 (packed_letters t)
      unfolding packed_letters
      gathered_letters = rw whole at g.so_far

      pub gathered_number : count ≡ letters_in (packed_letters t)
      unfolding packed_letters
      gathered_number = rw whole at g.number
