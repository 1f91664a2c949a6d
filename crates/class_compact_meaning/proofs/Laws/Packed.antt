-- A compact record has 16 bytes (`compacted_length`), and is made of its parts (`compact_made`).
-- Assumes nothing.
use Prim.Native.Nat.{ℕ, ◌+◌, ◌-◌, ◌*◌, ◌/◌, ◌%◌, ◌<◌}
use mathlib.Core.Path.{◌≡◌, refl}
use mathlib.Core.List.{List}
use native.Mathlib.Omega.{arith}
use lib.ListN.{length, set, take, drop, replicate}
use Rattle.base.specs.Limits.{CLASS_RECORD}
use Rattle.base.specs.Put.{put}
use Rattle.class_records.specs.Records.{records}
use Rattle.ring_meaning.specs.Record.{le_bytes}
use Rattle.class_compact_meaning.specs.Form.{COMPACT_RECORD, SHARED_BYTES, bytes_from}
use Rattle.class_compact_meaning.specs.Packed.{packed_place, compacted}
use Rattle.class_compact_meaning.proofs.Laws.Form.{bytes_slice}

module _ (t : List ℕ) where
  pub compacted_length : (i : ℕ) → length (compacted t i) ≡ COMPACT_RECORD
  unfolding compacted bytes_from le_bytes
  compacted_length i = refl

  pub compact_made : (i place : ℕ) (r : List ℕ) → i < records t → place ≡ packed_place t i
      → r ≡ put (replicate COMPACT_RECORD 0) 0 (take (i * CLASS_RECORD + SHARED_BYTES - i * CLASS_RECORD) (drop (i * CLASS_RECORD) t))
      → set (set r 14 (place % 256)) 15 (place / 256 % 256) ≡ compacted t i
  unfolding put bytes_from compacted le_bytes
  compact_made i place r h e made =
      let z : i * CLASS_RECORD + SHARED_BYTES - i * CLASS_RECORD ≡ SHARED_BYTES = omega arith in
      rw (made, z, bytes_slice t (i * CLASS_RECORD) SHARED_BYTES (omega arith), e)
