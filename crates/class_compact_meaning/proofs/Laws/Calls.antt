-- The returns of the calls, one by one: of the quick test, of the search for a fault, of the check, of unpacking and of packing.
-- Assumes nothing.
use Rattle.std.specs.Prelude.{Ok, Err}
use Prim.Native.Nat.{ℕ, ◌*◌, ◌%◌, ◌≤◌, ◌<◌}
use mathlib.Core.Path.{◌≡◌, sym, ap, ◌∙◌}
use mathlib.Core.Bool.{true, false, not, ◌||◌}
use mathlib.Core.List.{List, [], ◌∷◌}
use native.Mathlib.Omega.{arith}
use lib.ListN.{length, take}
use lib.Dec.{ltb}
use borrow.Author.Tests.{eq-eqb, ne_eqb, lt-ltb, le-ltb, ltb-false}
use Rattle.base.specs.declared.Refusal.{Refusal}
use Rattle.base.specs.Causes.{refused_at, given, first_of}
use Rattle.base.specs.Counted.{count_unless}
use Rattle.base.specs.Limits.{CLASS_RECORD, MOST_CLASSES}
use Rattle.base.specs.Put.{put}
use Rattle.base.specs.declared.refusals.Cause.TheVariants.{BadClasses, NoRoom}
use Rattle.base.proofs.Laws.Causes.{first_one, first_on, first_refused, first_passed, first_given, first_free, given_free, given_yes, free_given}
use Rattle.base.proofs.Laws.Counted.{counted_allowed, counted_refused, counted_at, after_allowed, after_refused}
use Rattle.base.proofs.Laws.Put.{put_part}
use Rattle.class_records.specs.Records.{records, good_table}
use Rattle.class_records.proofs.Laws.Records.{table_number}
use Rattle.classes.specs.Check.{bad_classes}
use Rattle.classes.proofs.Laws.Check.{good_free}
use Rattle.class_compact_meaning.specs.Form.{COMPACT_RECORD, LETTERS_RECORD, compact_records, letters_in}
use Rattle.class_compact_meaning.specs.Unpacked.{unpacked}
use Rattle.class_compact_meaning.specs.Check.{first_bad_record, first_bad_letters, bad_compact_length, bad_compact_number, bad_compact_record, bad_letters_length, bad_letters_record, bad_compact}
use Rattle.class_compact_meaning.specs.Packed.{compacted, packed_records, packed_letters}
use Rattle.class_compact_meaning.specs.Calls.{unpack_causes, unpack_answer, unpack_after, pack_causes, packed_unless, pack_answer, records_after, letters_after}
use Rattle.class_compact_meaning.specs.Inner.Form.{Sized}
use Rattle.class_compact_meaning.specs.Inner.Sound.{in_first_use, all_own, sound, beyond_table}
use Rattle.class_compact_meaning.proofs.Laws.Links.{zeros, zeros_length}
use Rattle.class_compact_meaning.proofs.Laws.Firsts.{or_no_l, or_no_r}
use Rattle.class_compact_meaning.proofs.Laws.Form.{joined_length}
use Rattle.class_compact_meaning.proofs.Laws.Numbering.{before_length, number_few}
use Rattle.class_compact_meaning.proofs.Laws.Packed.{compacted_length}
use Rattle.class_compact_meaning.proofs.Laws.Sound.{past_size, beyond_then}
use Rattle.class_compact_meaning.proofs.Laws.Unpacked.{unpacked_length}

-- ---- the quick test
module _ (c l : List ℕ) where
  pub sound_ragged : (length l % LETTERS_RECORD ≡ 0 → ⊥) → false ≡ sound c l
  unfolding sound
  sound_ragged h = rw (ne_eqb _ _ h)

  module _ (w : length l % LETTERS_RECORD ≡ 0) where
    pub sound_mixed : in_first_use c (letters_in l) ≡ false → false ≡ sound c l
    unfolding sound
    sound_mixed h = rw (eq-eqb _ _ w, h)

    pub sound_rest : in_first_use c (letters_in l) ≡ true → all_own l ≡ sound c l
    unfolding sound
    sound_rest h = rw (eq-eqb _ _ w, h)

  pub beyond_sound : true ≡ sound c l → (Ok tt) ≡ beyond_table c l
  unfolding beyond_table
  beyond_sound h = rw (← h)

  pub beyond_fault : false ≡ sound c l → bad_compact c l ≡ beyond_table c l
  unfolding beyond_table
  beyond_fault h = rw (← h)

-- ---- the search for a fault
module _ (c l : List ℕ) (s : Sized c) where
  module _ (bad : ℕ) (e : bad ≡ first_bad_record c l) where
    pub fault_record : bad < compact_records c → refused_at BadClasses bad ≡ bad_compact c l
    unfolding bad_compact_record
    fault_record h = sym (past_size c l s ∙ first_given _ _ BadClasses (first_bad_record c l) (rw e at (lt-ltb _ _ h)) ∙ rw (← e))

    module _ (h : compact_records c ≤ bad) where
      past_record : bad_compact c l ≡ first_of (bad_letters_length l ∷ bad_letters_record c l ∷ [])
      unfolding bad_compact_record
      past_record = past_size c l s ∙ first_passed _ _ BadClasses (first_bad_record c l) (rw e at (le-ltb _ _ h))

      pub fault_ragged : (length l % LETTERS_RECORD ≡ 0 → ⊥) → refused_at BadClasses 0 ≡ bad_compact c l
      unfolding bad_letters_length
      fault_ragged w = sym (past_record ∙ first_given _ _ BadClasses 0 (ap not (ne_eqb _ _ w)))

      module _ (w : length l % LETTERS_RECORD ≡ 0) (k : ℕ) (f : k ≡ first_bad_letters c l) where
        past_length : bad_compact c l ≡ bad_letters_record c l
        unfolding bad_letters_length
        past_length = past_record ∙ first_passed _ _ BadClasses 0 (ap not (eq-eqb (length l % LETTERS_RECORD) 0 w)) ∙ first_one (bad_letters_record c l)

        pub fault_letters : k < letters_in l → refused_at BadClasses k ≡ bad_compact c l
        unfolding bad_letters_record
        fault_letters m = sym (past_length ∙ given_yes _ BadClasses (first_bad_letters c l) (rw f at (lt-ltb _ _ m)) ∙ rw (← f))

        pub fault_none : letters_in l ≤ k → (Ok tt) ≡ bad_compact c l
        unfolding bad_letters_record
        fault_none m = sym (past_length ∙ free_given _ BadClasses (first_bad_letters c l) (rw f at (le-ltb _ _ m)))

  -- ---- the check, with the expansion at hand
  pub filled_refused : (r : Refusal) → beyond_table c l ≡ Err r → Err r ≡ bad_compact c l
  filled_refused r e = sym (first_refused _ (beyond_table c l) r e) ∙ beyond_then c l s [] ∙ first_one (bad_compact c l)

  pub filled_allowed : (table : List ℕ) → table ≡ unpacked c l → beyond_table c l ≡ Ok tt → bad_classes table ≡ bad_compact c l
  filled_allowed table t e =
      ap bad_classes t ∙ sym (first_one (bad_classes (unpacked c l))) ∙ sym (first_on _ (beyond_table c l) e) ∙ beyond_then c l s [] ∙ first_one (bad_compact c l)

-- the front of a room into which the expansion was put
-- a room of zeros is as long as it was made. This and what follows is said of any length: of a number that stands there the zeros are counted one by one
pub room_fits : (n k : ℕ) → k ≤ n → k ≤ length (zeros n)
room_fits n k h = rw (zeros_length n) h

pub expansion_front : (c l : List ℕ) (n : ℕ) (room : List ℕ) → compact_records c * CLASS_RECORD ≤ n → room ≡ put (zeros n) 0 (unpacked c l)
    → take (compact_records c * CLASS_RECORD) room ≡ unpacked c l
expansion_front c l n room h e =
    rw (e, ← unpacked_length c l) (put_part (zeros n) 0 (unpacked c l) (omega (arith, unpacked_length c l, zeros_length n)))

pub allowed_few : (c l : List ℕ) → bad_compact c l ≡ Ok tt → compact_records c ≤ MOST_CLASSES
unfolding bad_compact bad_compact_number
allowed_few c l e =
    let a = first_free (bad_compact_length c) _ e in
    let b = first_free (bad_compact_number c) _ a.1 in
    ltb-false MOST_CLASSES (compact_records c) (given_free _ BadClasses 0 b.0)

-- ---- unpacking
module _ (c l out : List ℕ) where
  pub unpack_bad : (r : Refusal) → bad_compact c l ≡ Err r → (Err r ≡ unpack_answer c l (length out)) × (out ≡ unpack_after c l out)
  unfolding unpack_answer unpack_after unpack_causes
  unpack_bad r e =
      let f : unpack_causes c l (length out) ≡ Err r = first_refused _ (bad_compact c l) r e in
      (sym (counted_refused _ (compact_records c) r f), sym (after_refused (unpacked c l) out _ r f))

  module _ (e : bad_compact c l ≡ Ok tt) where
    pub unpack_short : length out < compact_records c * CLASS_RECORD
        → (refused_at NoRoom 0 ≡ unpack_answer c l (length out)) × (out ≡ unpack_after c l out)
    unfolding unpack_answer unpack_after unpack_causes refused_at
    unpack_short h =
        let f : unpack_causes c l (length out) ≡ refused_at NoRoom 0 =
        first_on _ (bad_compact c l) e ∙ first_given [] _ NoRoom 0 (lt-ltb (length out) (length (unpacked c l)) (rw (unpacked_length c l) h)) in
        (counted_at _ (compact_records c) NoRoom 0 f, sym (after_refused (unpacked c l) out _ (record { cause = NoRoom; place = 0 }) f))

    pub unpack_done : compact_records c * CLASS_RECORD ≤ length out
        → (Ok (compact_records c) ≡ unpack_answer c l (length out)) × (put out 0 (unpacked c l) ≡ unpack_after c l out)
    unfolding unpack_answer unpack_after unpack_causes first_of
    unpack_done h =
        let f : unpack_causes c l (length out) ≡ (Ok tt) =
        first_on (given (ltb (length out) (length (unpacked c l))) NoRoom 0 ∷ []) (bad_compact c l) e
        ∙ first_passed [] _ NoRoom 0 (le-ltb (length out) (length (unpacked c l)) (rw (unpacked_length c l) h)) in
        (sym (counted_allowed _ (compact_records c) f), sym (after_allowed (unpacked c l) out _ f))

-- ---- packing
pub room_first : (a b c d : ℕ) → (ltb a b || ltb c d) ≡ false → b ≤ a
room_first a b c d h = ltb-false a b (or_no_l (ltb a b) (ltb c d) h)

pub room_second : (a b c d : ℕ) → (ltb a b || ltb c d) ≡ false → d ≤ c
room_second a b c d h = ltb-false c d (or_no_r (ltb a b) (ltb c d) h)

pub records_length : (t : List ℕ) → length (packed_records t) ≡ records t * COMPACT_RECORD
unfolding packed_records
records_length t = joined_length (compacted t) COMPACT_RECORD (records t) (λ i h. compacted_length t i)

pub letters_length : (t : List ℕ) → length (packed_letters t) ≡ letters_in (packed_letters t) * LETTERS_RECORD
unfolding packed_letters
letters_length t = before_length t (records t)

pub letters_few : (t : List ℕ) (count : ℕ) → good_table t ≡ true → count ≡ letters_in (packed_letters t) → count ≤ MOST_CLASSES
unfolding packed_letters
letters_few t count g e = omega (arith, number_few t (records t), table_number t g, e)

-- the fronts of two rooms into which a table was packed
pub records_front : (t : List ℕ) (n : ℕ) (room : List ℕ) → records t * COMPACT_RECORD ≤ n → room ≡ put (zeros n) 0 (packed_records t)
    → take (records t * COMPACT_RECORD) room ≡ packed_records t
records_front t n room h e =
    rw (e, ← records_length t) (put_part (zeros n) 0 (packed_records t) (omega (arith, records_length t, zeros_length n)))

pub letters_front : (t : List ℕ) (n : ℕ) (room : List ℕ) (count : ℕ) → count ≡ letters_in (packed_letters t) → count * LETTERS_RECORD ≤ n
    → room ≡ put (zeros n) 0 (packed_letters t) → take (count * LETTERS_RECORD) room ≡ packed_letters t
letters_front t n room count m h e =
    let z : count * LETTERS_RECORD ≡ length (packed_letters t) = ap (λ (x : ℕ). x * LETTERS_RECORD) m ∙ sym (letters_length t) in
    rw (e, z) (put_part (zeros n) 0 (packed_letters t) (omega (arith, z, zeros_length n)))

module _ (t rs ls : List ℕ) where
  pub pack_bad : (r : Refusal) → bad_classes t ≡ Err r
      → (Err r ≡ pack_answer t (length rs) (length ls)) × ((rs ≡ records_after t rs (length ls)) × (ls ≡ letters_after t (length rs) ls))
  unfolding pack_answer records_after letters_after pack_causes packed_unless
  pack_bad r e =
      let f : pack_causes t (length rs) (length ls) ≡ Err r = first_refused _ (bad_classes t) r e in
      (rw f, (sym (after_refused (packed_records t) rs _ r f), sym (after_refused (packed_letters t) ls _ r f)))

  module _ (g : good_table t ≡ true) where
    pub pack_short : (ltb (length rs) (length (packed_records t)) || ltb (length ls) (length (packed_letters t))) ≡ true
        → (refused_at NoRoom 0 ≡ pack_answer t (length rs) (length ls))
        × ((rs ≡ records_after t rs (length ls)) × (ls ≡ letters_after t (length rs) ls))
    unfolding pack_answer records_after letters_after pack_causes packed_unless refused_at
    pack_short h =
        let f : pack_causes t (length rs) (length ls) ≡ refused_at NoRoom 0 = first_on _ (bad_classes t) (good_free t g) ∙ first_given [] _ NoRoom 0 h in
        let why : Refusal = record { cause = NoRoom; place = 0 } in
        (rw f, (sym (after_refused (packed_records t) rs _ why f), sym (after_refused (packed_letters t) ls _ why f)))

    pub pack_done : (ltb (length rs) (length (packed_records t)) || ltb (length ls) (length (packed_letters t))) ≡ false
        → (packed_unless (Ok tt) (records t) (letters_in (packed_letters t)) ≡ pack_answer t (length rs) (length ls))
        × ((put rs 0 (packed_records t) ≡ records_after t rs (length ls)) × (put ls 0 (packed_letters t) ≡ letters_after t (length rs) ls))
    unfolding pack_answer records_after letters_after pack_causes first_of
    pack_done h =
        let f : pack_causes t (length rs) (length ls) ≡ (Ok tt) =
        first_on (given (ltb (length rs) (length (packed_records t)) || ltb (length ls) (length (packed_letters t))) NoRoom 0 ∷ []) (bad_classes t) (good_free t g)
        ∙ first_passed [] _ NoRoom 0 h in
        (rw f, (sym (after_allowed (packed_records t) rs _ f), sym (after_allowed (packed_letters t) ls _ f)))
