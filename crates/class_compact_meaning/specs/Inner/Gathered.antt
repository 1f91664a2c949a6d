-- Words of inner contracts, beside Packed: what stands in the room of letters once the records before i were gathered (`Placed`), what is told of the
-- place of the next one's letters (`Among`), and what the rooms are once it was gathered (`Gathered`). No public promise rests on them.
-- Assumes nothing.
use Rattle.std.specs.Prelude.{ℕ, ◌+◌, ◌*◌, ◌≤◌, ◌<◌, ◌≡◌, List, take}
use Rattle.base.specs.Limits.{MOST_CLASSES}
use Rattle.base.specs.Put.{put}
use Rattle.class_records.specs.Records.{records}
use Rattle.class_compact_meaning.specs.Form.{COMPACT_RECORD, LETTERS_RECORD, letters_in}
use Rattle.class_compact_meaning.specs.Packed.{new_letters, letters_before, packed_place, compacted, packed_letters}
use Rattle.class_compact_meaning.specs.Inner.Links.{Linked}

pub record Placed (t : List ℕ) (i : ℕ) (used : List ℕ) (count : ℕ) (links : List ℕ) : Type 0 where
  pub inside : i < records t
  pub few : records t ≤ MOST_CLASSES
  pub room : MOST_CLASSES ≤ letters_in used
  pub number : count ≡ letters_in (letters_before t i)
  pub so_far : take (count * LETTERS_RECORD) used ≡ letters_before t i
  pub linked : Linked (packed_letters t) count links

-- what `place_among` ensures
pub record Among (t : List ℕ) (i count place : ℕ) (links : List ℕ) : Type 0 where
  pub is : place ≡ packed_place t i
  pub few : place ≤ count + 1
  pub linked : Linked (packed_letters t) (letters_in (letters_before t (i + 1))) links

-- what `gather_record` ensures
pub record Gathered (t : List ℕ) (i : ℕ) (packed used : List ℕ) (count : ℕ) (packed' used' : List ℕ) (count' : ℕ) (links : List ℕ) : Type 0 where
  pub records : packed' ≡ put packed (i * COMPACT_RECORD) (compacted t i)
  pub letters : used' ≡ put used (count * LETTERS_RECORD) (new_letters t i)
  pub number : count' ≡ letters_in (letters_before t (i + 1))
  pub linked : Linked (packed_letters t) (letters_in (letters_before t (i + 1))) links
