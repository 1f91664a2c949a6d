-- The expansion: each record has 24 bytes (`expansion_length`) and is made of its parts (`expanded_with`, `expanded_without`); so many records
-- (`unpacked_length`, `unpacked_records`); and the base and lower of each are those at its place (`base_there`, `lower_there`, `base_none`, `lower_none`).
-- Assumes nothing.
use Prim.Native.Nat.{ℕ, suc, ◌+◌, ◌-◌, ◌*◌, ◌/◌, ◌≤◌, ◌<◌}
use mathlib.Core.Path.{◌≡◌, refl, ◌∙◌}
use mathlib.Core.Bool.{true, false}
use mathlib.Core.List.{List, ◌∷◌}
use native.Mathlib.Omega.{arith}
use lib.ListN.{length, get_or, take, drop, replicate, length-append}
use lib.Seq.{get_or-append-add}
use Rattle.base.specs.LittleEndian.{le32}
use Rattle.base.specs.Limits.{CLASS_RECORD}
use Rattle.base.specs.Put.{put}
use Rattle.base.specs.Tests.{within}
use Rattle.base.proofs.Laws.Tests.{within_lo, within_hi, cond_both}
use Rattle.class_records.specs.Records.{records, record_at}
use Rattle.class_compact_meaning.specs.Form.{COMPACT_RECORD, SHARED_BYTES, LETTERS_RECORD, LETTERS_AT, compact_records, letters_in, place_at, base_at, lower_at, bytes_from}
use Rattle.class_compact_meaning.specs.Unpacked.{letters_bytes, expansion, unpacked}
use Rattle.class_compact_meaning.proofs.Laws.Form.{bytes_length, bytes_at, bytes_slice, le32_same, joined_length, joined_at}

pub place_inside : (l : List ℕ) (p : ℕ) → within 1 (letters_in l) p ≡ true → (p - 1) * LETTERS_RECORD + LETTERS_RECORD ≤ length l
place_inside l p h = omega (arith, within_lo 1 (letters_in l) p h, within_hi 1 (letters_in l) p h)

letters_length : (l : List ℕ) (p : ℕ) → length (letters_bytes l p) ≡ LETTERS_RECORD
unfolding letters_bytes
letters_length l p =
    cond_both (λ (x : List ℕ). length x ≡ LETTERS_RECORD) (within 1 (letters_in l) p) (bytes_from l ((p - 1) * LETTERS_RECORD) LETTERS_RECORD)
    (replicate LETTERS_RECORD 0) (bytes_length l ((p - 1) * LETTERS_RECORD) LETTERS_RECORD) refl

module _ (c l : List ℕ) where
  pub expansion_length : (i : ℕ) → length (expansion c l i) ≡ CLASS_RECORD
  unfolding expansion
  expansion_length i =
      omega (
        arith,
        length-append (bytes_from c (i * COMPACT_RECORD) SHARED_BYTES) (0 ∷ 0 ∷ letters_bytes l (place_at c i)),
        bytes_length c (i * COMPACT_RECORD) SHARED_BYTES,
        letters_length l (place_at c i),
      )

  pub unpacked_length : length (unpacked c l) ≡ compact_records c * CLASS_RECORD
  unfolding unpacked
  unpacked_length = joined_length (expansion c l) CLASS_RECORD (compact_records c) (λ i h. expansion_length i)

  pub unpacked_records : records (unpacked c l) ≡ compact_records c
  unpacked_records = rw unpacked_length (divided (compact_records c))
    where
      divided : (n : ℕ) → n * CLASS_RECORD / CLASS_RECORD ≡ n
      divided n = omega arith

  -- the bytes laid one after the other are the expansion
  module _ (i p : ℕ) (r : List ℕ) (h : i < compact_records c) (e : p ≡ place_at c i)
      (made : r ≡ put (replicate CLASS_RECORD 0) 0 (take (i * COMPACT_RECORD + SHARED_BYTES - i * COMPACT_RECORD) (drop (i * COMPACT_RECORD) c))) where
    shared : r ≡ put (replicate CLASS_RECORD 0) 0 (bytes_from c (i * COMPACT_RECORD) SHARED_BYTES)
    shared =
        let z : i * COMPACT_RECORD + SHARED_BYTES - i * COMPACT_RECORD ≡ SHARED_BYTES = omega arith in
        made ∙ rw (z, bytes_slice c (i * COMPACT_RECORD) SHARED_BYTES (omega arith))

    pub expanded_without : within 1 (letters_in l) p ≡ false → r ≡ expansion c l i
    unfolding put bytes_from expansion letters_bytes
    expanded_without w = shared ∙ rw (← e, w)

    pub expanded_with : (s : List ℕ) → within 1 (letters_in l) p ≡ true
        → s ≡ put r LETTERS_AT (take ((p - 1) * LETTERS_RECORD + LETTERS_RECORD - (p - 1) * LETTERS_RECORD) (drop ((p - 1) * LETTERS_RECORD) l))
        → s ≡ expansion c l i
    unfolding put bytes_from expansion letters_bytes
    expanded_with s w m =
        let z : (p - 1) * LETTERS_RECORD + LETTERS_RECORD - (p - 1) * LETTERS_RECORD ≡ LETTERS_RECORD = omega arith in
        m ∙ rw (shared, z, bytes_slice l ((p - 1) * LETTERS_RECORD) LETTERS_RECORD (place_inside l p w), ← e, w)

  -- what stands at a record's base and lower
  two : (s : List ℕ) (k : ℕ) → get_or (0 ∷ 0 ∷ s) (2 + k) 0 ≡ get_or s k 0
  two s k = let q : 2 + k ≡ suc (suc k) = omega arith in rw q

  behind : (i k : ℕ) → get_or (expansion c l i) (LETTERS_AT + k) 0 ≡ get_or (letters_bytes l (place_at c i)) (0 + k) 0
  unfolding expansion
  behind i k =
      let y : LETTERS_AT + k ≡ length (bytes_from c (i * COMPACT_RECORD) SHARED_BYTES) + (2 + k) = omega (arith, bytes_length c (i * COMPACT_RECORD) SHARED_BYTES) in
      let x : 0 + k ≡ k = omega arith in
      rw (y, x) (get_or-append-add (bytes_from c (i * COMPACT_RECORD) SHARED_BYTES) (0 ∷ 0 ∷ letters_bytes l (place_at c i)) (2 + k) 0 ∙ two (letters_bytes l (place_at c i)) k)

  pub at_letters : (i : ℕ) → i < compact_records c → (k : ℕ) → k < LETTERS_RECORD
      → get_or (unpacked c l) (i * CLASS_RECORD + LETTERS_AT + k) 0 ≡ get_or (letters_bytes l (place_at c i)) (0 + k) 0
  unfolding unpacked
  at_letters i h k m =
      let z : i * CLASS_RECORD + LETTERS_AT + k ≡ i * CLASS_RECORD + (LETTERS_AT + k) = omega arith in
      rw z (joined_at (expansion c l) CLASS_RECORD (compact_records c) (λ j b. expansion_length j) i (LETTERS_AT + k) h (omega arith) ∙ behind i k)

  module _ (i : ℕ) (h : i < compact_records c) where
    base_is : (record_at (unpacked c l) i).base ≡ le32 (letters_bytes l (place_at c i)) 0
    unfolding record_at
    base_is =
        let z : i * CLASS_RECORD + LETTERS_AT + 0 ≡ i * CLASS_RECORD + LETTERS_AT = omega arith in
        rw z at (le32_same (unpacked c l) (letters_bytes l (place_at c i)) (i * CLASS_RECORD + LETTERS_AT) 0 LETTERS_RECORD 0 (omega arith) (at_letters i h))

    lower_is : (record_at (unpacked c l) i).lower ≡ le32 (letters_bytes l (place_at c i)) 4
    unfolding record_at
    lower_is =
        let z : i * CLASS_RECORD + LETTERS_AT + 4 ≡ i * CLASS_RECORD + 20 = omega arith in
        rw z at (le32_same (unpacked c l) (letters_bytes l (place_at c i)) (i * CLASS_RECORD + LETTERS_AT) 0 LETTERS_RECORD 4 (omega arith) (at_letters i h))

    -- no letters at 0
    pub base_none : place_at c i ≡ 0 → (record_at (unpacked c l) i).base ≡ 0
    unfolding letters_bytes
    base_none e = base_is ∙ rw e

    pub lower_none : place_at c i ≡ 0 → (record_at (unpacked c l) i).lower ≡ 0
    unfolding letters_bytes
    lower_none e = lower_is ∙ rw e

    -- those at a place that is there
    module _ (w : within 1 (letters_in l) (place_at c i) ≡ true) where
      pub there : (k : ℕ) → k < LETTERS_RECORD → get_or (letters_bytes l (place_at c i)) (0 + k) 0 ≡ get_or l ((place_at c i - 1) * LETTERS_RECORD + k) 0
      unfolding letters_bytes
      there k m =
          let x : 0 + k ≡ k = omega arith in
          rw (w, x) (bytes_at l ((place_at c i - 1) * LETTERS_RECORD) LETTERS_RECORD k m)

      pub base_there : (record_at (unpacked c l) i).base ≡ base_at l (place_at c i - 1)
      unfolding base_at
      base_there =
          let z : (place_at c i - 1) * LETTERS_RECORD + 0 ≡ (place_at c i - 1) * LETTERS_RECORD = omega arith in
          base_is ∙ (rw z at (le32_same (letters_bytes l (place_at c i)) l 0 ((place_at c i - 1) * LETTERS_RECORD) LETTERS_RECORD 0 (omega arith) there))

      pub lower_there : (record_at (unpacked c l) i).lower ≡ lower_at l (place_at c i - 1)
      unfolding lower_at
      lower_there = lower_is ∙ le32_same (letters_bytes l (place_at c i)) l 0 ((place_at c i - 1) * LETTERS_RECORD) LETTERS_RECORD 4 (omega arith) there
