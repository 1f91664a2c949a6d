-- A good table, packed, is a good compact table (`packed_good`), and its expansion is the table (`packed_back`).
-- Assumes nothing.
use Rattle.std.specs.Prelude.{Ok}
use Prim.Native.Nat.{ℕ, zero, suc, ◌+◌, ◌-◌, ◌*◌, ◌/◌, ◌%◌, ◌≤◌, ◌<◌}
use mathlib.Core.Path.{◌≡◌, refl, sym, ap, ◌∙◌}
use mathlib.Core.Bool.{true, false, ◌&&◌}
use mathlib.Core.List.{List, ◌∷◌, ◌++◌}
use native.Mathlib.Omega.{arith}
use lib.ListN.{length, get_or, get_or-append}
use lib.Dec.{eqb, leb}
use borrow.Author.Tests.{eqb-true, eq-eqb, le-leb, lt-ltb, le-ltb}
use Rattle.base.specs.First.{first}
use Rattle.base.specs.Limits.{CLASS_RECORD}
use Rattle.base.specs.LittleEndian.{le16}
use Rattle.base.specs.Tests.{within}
use Rattle.base.proofs.Laws.First.{first_none, each_all}
use Rattle.base.proofs.Laws.Tests.{by_bool, split, and_l, and_yes, within_yes}
use Rattle.class_records.specs.Records.{records, record_at, good_table}
use Rattle.class_records.proofs.Laws.Records.{table_number, table_fields}
use Rattle.classes.proofs.Laws.Check.{good_free}
use Rattle.ring_meaning.specs.Record.{le_bytes}
use Rattle.class_compact_meaning.specs.Form.{COMPACT_RECORD, Bytes, SHARED_BYTES, LETTERS_RECORD, LETTERS_AT, compact_records, letters_in, place_at, base_at, lower_at, bytes_from}
use Rattle.class_compact_meaning.specs.Unpacked.{letters_bytes, expansion, unpacked}
use Rattle.class_compact_meaning.specs.Check.{no_letters, letters_are, repeated, bad_compact}
use Rattle.class_compact_meaning.specs.Packed.{plain, alike, first_alike, is_new, letters_before, packed_place, compacted, packed_records, packed_letters}
use Rattle.class_compact_meaning.specs.Inner.Form.{Sized, HALF}
use Rattle.class_compact_meaning.specs.Inner.Sound.{seen_before, next_only, in_first_use, is_own, all_own, sound}
use Rattle.class_compact_meaning.proofs.Laws.Bytes.{words_same, words_zero, half_zero, half_read}
use Rattle.class_compact_meaning.proofs.Laws.Calls.{records_length, letters_length}
use Rattle.class_compact_meaning.proofs.Laws.Firsts.{clash}
use Rattle.class_compact_meaning.proofs.Laws.Form.{bytes_length, bytes_at, bytes_same, bytes_split, joined_same, joined_at, joined_table}
use Rattle.class_compact_meaning.proofs.Laws.Numbering.{both, alike_base, alike_lower, alike_of, alike_at, alike_first, alike_not, first_new, new_own, new_some, number_new}
use Rattle.class_compact_meaning.proofs.Laws.Numbering.{number_old, number_none, number_rising, number_past, number_few, bytes_there, base_put, lower_put, From, letter_from, place_none}
use Rattle.class_compact_meaning.proofs.Laws.Numbering.{place_some, place_few, new_place, new_past}
use Rattle.class_compact_meaning.proofs.Laws.Packed.{compacted_length}
use Rattle.class_compact_meaning.proofs.Laws.Sound.{sound_same}

module _ (t : List ℕ) (g : good_table t ≡ true) (bytes : Bytes t) where
  abbrev c : List ℕ
  c = packed_records t

  abbrev l : List ℕ
  l = packed_letters t

  abbrev before : ℕ → ℕ
  before i = letters_in (letters_before t i)

  count_same : compact_records c ≡ records t
  count_same = rw (records_length t) (divided (records t))
    where
      divided : (n : ℕ) → n * COMPACT_RECORD / COMPACT_RECORD ≡ n
      divided n = omega arith

  pub packed_sized : Sized c
  packed_sized = record { whole = rw (records_length t) (times (records t)); few = rw count_same (table_number t g) }
    where
      times : (n : ℕ) → n * COMPACT_RECORD % COMPACT_RECORD ≡ 0
      times n = omega arith

  letters_number : letters_in l ≡ before (records t)
  unfolding packed_letters
  letters_number = refl

  -- ---- a record's bytes
  record_byte : (i j : ℕ) → i < records t → j < COMPACT_RECORD → get_or c (i * COMPACT_RECORD + j) 0 ≡ get_or (compacted t i) j 0
  unfolding packed_records
  record_byte i j h m = joined_at (compacted t) COMPACT_RECORD (records t) (λ k b. compacted_length t k) i j h m

  place_small : (i : ℕ) → i < records t → packed_place t i < HALF
  place_small i h = omega (arith, place_few t i h, number_few t i, table_number t g)

  place_same : (i : ℕ) → i < records t → place_at c i ≡ packed_place t i
  unfolding place_at compacted bytes_from le_bytes
  place_same i h =
      let z : i * COMPACT_RECORD + SHARED_BYTES + 1 ≡ i * COMPACT_RECORD + 15 = omega arith in
      rw (z, record_byte i 14 h (omega arith), record_byte i 15 h (omega arith)) (half_read (packed_place t i) (place_small i h))

  -- ---- first used in their order
  seen_before_lem : (i : ℕ) → i ≤ records t → seen_before c i ≡ before i
  unfolding seen_before
  seen_before_lem zero h = sym (number_none t)
  seen_before_lem (suc i) h =
      let s : suc i ≡ i + 1 = omega arith in
      let e : seen_before c i ≡ before i = seen_before_lem i (omega arith) in
      let p : place_at c i ≡ packed_place t i = place_same i (omega arith) in
      rw (s, e, p) (by_bool (is_new t i)
      (λ n. rw (lt-ltb (before i) (packed_place t i) (past (new_place t i n)), number_new t i n) (new_place t i n))
      (λ n. rw (le-ltb (before i) (packed_place t i) (old i (omega arith) n)) (sym (number_old t i n))))
    where
      past : {a b : ℕ} → a ≡ b + 1 → b < a
      past e = omega arith

      old : (i : ℕ) → i < records t → is_new t i ≡ false → packed_place t i ≤ before i
      old i h n = split (before i) (packed_place t i) (λ m. clash (new_past t i h m) n) (λ m. m)

  packed_order : in_first_use c (letters_in l) ≡ true
  unfolding in_first_use next_only
  packed_order =
      and_yes
      (each_all (λ i. leb (place_at c i) (seen_before c i + 1)) (compact_records c) (λ i h. let m : i < records t = rw count_same at h in
      rw (place_same i m, seen_before_lem i (omega arith)) (le-leb (packed_place t i) (before i + 1) (place_few t i m))))
      (eq-eqb (seen_before c (compact_records c)) (letters_in l) (rw (count_same, letters_number) (seen_before_lem (records t) (omega arith))))

  -- ---- the letters
  module _ (k : ℕ) (h : k < letters_in l) where
    from : From t (records t) k
    from = letter_from t (records t) k (rw letters_number at h)

    base_from : base_at l k ≡ (record_at t from.at).base
    unfolding packed_letters
    base_from = ap (base_at (letters_before t (records t))) (sym from.number) ∙ base_put t from.at (records t) from.new from.below

    lower_from : lower_at l k ≡ (record_at t from.at).lower
    unfolding packed_letters
    lower_from = ap (lower_at (letters_before t (records t))) (sym from.number) ∙ lower_put t from.at (records t) from.new from.below

    some : no_letters l k ≡ false
    unfolding no_letters plain
    some = rw (base_from, lower_from) (new_some t from.at from.new)

  once : (k : ℕ) (h : k < letters_in l) → (j : ℕ) → j < k → letters_are l (base_at l k) (lower_at l k) j ≡ false
  unfolding letters_are
  once k h j m =
      by_bool (eqb (base_at l j) (base_at l k) && eqb (lower_at l j) (lower_at l k))
      (λ s. let b = both (base_at l j) (lower_at l j) (base_at l k) (lower_at l k) s in
      let hj : j < letters_in l = omega arith in
      let f = from k h in
      let e = from j hj in
      let a : alike t f.at e.at ≡ true =
      alike_of t f.at e.at (sym (base_from j hj) ∙ b.0 ∙ base_from k h) (sym (lower_from j hj) ∙ b.1 ∙ lower_from k h) in
      let less : e.at < f.at = earlier e.at f.at e.number f.number in
      clash a (alike_not t f.at f.below e.at (rw (new_own t f.at f.new) less)))
      (λ s. s)
    where
      earlier : (x y : ℕ) → before x ≡ j → before y ≡ k → x < y
      earlier x y p q = split x y (λ a. a) (λ a. absurd (no (number_rising t y x a) p q))
        where
          no : before y ≤ before x → before x ≡ j → before y ≡ k → ⊥
          no a b d = omega arith

  own : (k : ℕ) → k < letters_in l → is_own l k ≡ true
  unfolding is_own repeated
  own k h =
      let q : first (letters_are l (base_at l k) (lower_at l k)) k ≡ k = first_none _ k (once k h) in
      rw (some k h, q, le-ltb k k (omega arith))

  packed_sound : sound c l ≡ true
  unfolding sound all_own
  packed_sound =
      and_yes (eq-eqb _ _ (whole (length l) (letters_in l) (letters_length t))) (and_yes packed_order (each_all (is_own l) (letters_in l) own))
    where
      whole : (n m : ℕ) → n ≡ m * LETTERS_RECORD → n % LETTERS_RECORD ≡ 0
      whole n m e = omega arith

  -- ---- and back
  letters_there : (f : ℕ) → is_new t f ≡ true → f < records t
      → bytes_from l (before f * LETTERS_RECORD) LETTERS_RECORD ≡ bytes_from t (f * CLASS_RECORD + LETTERS_AT) LETTERS_RECORD
  unfolding packed_letters
  letters_there f n b = bytes_same (letters_before t (records t)) t (before f * LETTERS_RECORD) (f * CLASS_RECORD + LETTERS_AT) LETTERS_RECORD (bytes_there t f (records t) n b)

  letters_back : (i : ℕ) → i < records t → letters_bytes l (packed_place t i) ≡ bytes_from t (i * CLASS_RECORD + LETTERS_AT) LETTERS_RECORD
  unfolding letters_bytes plain record_at
  letters_back i h =
      by_bool (plain t i)
      (λ e. let z : packed_place t i ≡ 0 = sym (place_none t i e) in
      let w = both (record_at t i).base (record_at t i).lower 0 0 e in
      let y : i * CLASS_RECORD + LETTERS_AT + 4 ≡ i * CLASS_RECORD + 20 = omega arith in
      rw z (sym (words_zero t bytes (i * CLASS_RECORD + LETTERS_AT) w.0 (rw y w.1))))
      (λ e. let f = first_alike t i in
      let a = alike_first t i h in
      let n = first_new t i h e in
      let below : f < records t = omega (arith, alike_at t i h) in
      let z : packed_place t i ≡ before f + 1 = place_some t i e in
      let w : within 1 (letters_in l) (before f + 1) ≡ true =
      within_yes 1 (letters_in l) (before f + 1) (omega arith) (rw letters_number (number_past t f (records t) n below)) in
      let y : before f + 1 - 1 ≡ before f = omega arith in
      let x : f * CLASS_RECORD + LETTERS_AT + 4 ≡ f * CLASS_RECORD + 20 = omega arith in
      let v : i * CLASS_RECORD + LETTERS_AT + 4 ≡ i * CLASS_RECORD + 20 = omega arith in
      rw (z, w, y) (letters_there f n below
      ∙ words_same t t bytes bytes (f * CLASS_RECORD + LETTERS_AT) (i * CLASS_RECORD + LETTERS_AT) (alike_base t i f a) (rw (x, v) (alike_lower t i f a))))

  shared_back : (i : ℕ) → i < records t → bytes_from c (i * COMPACT_RECORD) SHARED_BYTES ≡ bytes_from t (i * CLASS_RECORD) SHARED_BYTES
  unfolding compacted
  shared_back i h =
      bytes_same c t (i * COMPACT_RECORD) (i * CLASS_RECORD) SHARED_BYTES
      (λ k m. record_byte i k h (omega arith)
      ∙ get_or-append (bytes_from t (i * CLASS_RECORD) SHARED_BYTES) (le_bytes 2 (packed_place t i)) 0 k (rw (bytes_length t (i * CLASS_RECORD) SHARED_BYTES) m)
      ∙ bytes_at t (i * CLASS_RECORD) SHARED_BYTES k m)

  record_back : (i : ℕ) → i < records t → expansion c l i ≡ bytes_from t (i * CLASS_RECORD) CLASS_RECORD
  unfolding expansion record_at
  record_back i h =
      let z : le16 t (i * CLASS_RECORD + SHARED_BYTES) ≡ 0 = (table_fields t g i h).pad in
      rw (place_same i h, shared_back i h, letters_back i h)
      (sym (bytes_split t (i * CLASS_RECORD) 14 10 ∙ ap (λ (x : List ℕ). bytes_from t (i * CLASS_RECORD) 14 ++ x) (behind z)))
    where
      behind : le16 t (i * CLASS_RECORD + SHARED_BYTES) ≡ 0
          → bytes_from t (i * CLASS_RECORD + 14) 10 ≡ 0 ∷ 0 ∷ bytes_from t (i * CLASS_RECORD + LETTERS_AT) LETTERS_RECORD
      behind z =
          let y : i * CLASS_RECORD + 14 + 2 ≡ i * CLASS_RECORD + LETTERS_AT = omega arith in
          bytes_split t (i * CLASS_RECORD + 14) 2 8 ∙ rw (half_zero t (i * CLASS_RECORD + 14) z, y)

  table_whole : length t ≡ records t * CLASS_RECORD
  unfolding good_table
  table_whole = times (length t) (eqb-true _ _ (and_l (eqb (length t % CLASS_RECORD) 0) _ (and_l _ _ g)))
    where
      times : (n : ℕ) → n % CLASS_RECORD ≡ 0 → n ≡ n / CLASS_RECORD * CLASS_RECORD
      times n e = omega arith

  -- "Either form, if good, goes to the other and back with the same bytes"
  pub packed_back : unpacked c l ≡ t
  unfolding unpacked
  packed_back =
      rw count_same (joined_same (expansion c l) (λ i. bytes_from t (i * CLASS_RECORD) CLASS_RECORD) (records t) record_back
      ∙ joined_table t CLASS_RECORD (records t) table_whole)

  pub packed_good : bad_compact c l ≡ Ok tt
  packed_good = sound_same c l packed_sized packed_sound ∙ rw packed_back (good_free t g)
