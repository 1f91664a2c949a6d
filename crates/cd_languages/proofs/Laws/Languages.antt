-- Laws of the language table: what a good table's records are, and where a record's bytes stand.
-- Assumes nothing.
use Prim.Native.Nat.{ℕ, ◌+◌, ◌*◌, ◌/◌, ◌%◌, ◌≤◌, ◌<◌}
use mathlib.Core.Path.{◌≡◌}
use mathlib.Core.List.{List}
use mathlib.Core.Bool.{true, false, not, ◌&&◌, and-true}
use native.Mathlib.Omega.{arith}
use lib.ListN.{length}
use lib.Dec.{leb, eqb}
use borrow.Author.Tests.{leb-true, le-leb, lt-ltb, le-ltb, eqb-true, eqb-false, not-true}
use Rattle.base.specs.First.{each}
use Rattle.base.proofs.Laws.First.{first_before, first_found, first_within, each_at}
use Rattle.base.specs.Limits.{LANGUAGE_RECORD, LANGUAGE_LETTERS, MOST_LANGUAGES, MOST_MARKS}
use Rattle.base.specs.Tests.{scalar, within}
use Rattle.base.proofs.Laws.Tests.{within_lo, within_hi, within_above, by_bool, and_l, and_r}
use Rattle.base.specs.Inner.LittleEndian.{Word}
use Rattle.cd_languages.specs.Languages.{COUNT_AT, MARKS_AT, SLOTS_AT, SLOT, languages, number_of, letter_count, marks_of, slot_at, good_slot, slot_good, good_slots, good_record, first_record}
use Rattle.cd_languages.specs.Inner.Languages.{good_languages}

module _ (t : List ℕ) (i : ℕ) where
  pub slot_used : (k : ℕ) → k < letter_count t i → scalar (slot_at t i k) ≡ slot_good t i k
  unfolding good_slot
  slot_used k h = rw (lt-ltb k (letter_count t i) h)

  pub slot_unused : (k : ℕ) → letter_count t i ≤ k → eqb (slot_at t i k) 0 ≡ slot_good t i k
  unfolding good_slot
  slot_unused k h = rw (le-ltb k (letter_count t i) h)

  pub too_many_letters : LANGUAGE_LETTERS < letter_count t i → good_record t i ≡ false
  unfolding good_record
  too_many_letters h =
      by_bool (eqb (number_of t i) 0)
      (λ e. rw e)
      (λ e. rw (e, within_above 1 LANGUAGE_LETTERS (letter_count t i) (omega arith) h))

  pub few_letters : letter_count t i ≤ LANGUAGE_LETTERS
      → (not (eqb (number_of t i) 0) && leb 1 (letter_count t i) && leb (marks_of t i) MOST_MARKS && good_slots t i) ≡ good_record t i
  unfolding good_record
  few_letters h = rw (le-leb (letter_count t i) LANGUAGE_LETTERS h, and-true (leb 1 (letter_count t i)))

-- the fields of a good table's records
pub record Fields (t : List ℕ) (i : ℕ) : Type 0 where
  pub number : number_of t i ≡ 0 → ⊥
  pub some : 1 ≤ letter_count t i
  pub most : letter_count t i ≤ LANGUAGE_LETTERS
  pub marks : marks_of t i ≤ MOST_MARKS
  pub used : (k : ℕ) → k < letter_count t i → scalar (slot_at t i k) ≡ true

module _ (t : List ℕ) (g : good_languages t ≡ true) where
  pub good_most : languages t ≤ MOST_LANGUAGES
  unfolding good_languages
  good_most =
      leb-true _ _ (and_r (eqb (length t % LANGUAGE_RECORD) 0) _ (and_l _ (each (good_record t) (languages t)) g))

  good_at_lem : (i : ℕ) → i < languages t → good_record t i ≡ true
  unfolding good_languages
  good_at_lem i l =
      each_at (good_record t) (languages t)
      (and_r (eqb (length t % LANGUAGE_RECORD) 0 && leb (languages t) MOST_LANGUAGES) _ g)
      i l

  pub good_fields_lem : (i : ℕ) → i < languages t → Fields t i
  unfolding good_record good_slots good_slot
  good_fields_lem i l =
      let h = good_at_lem i l in
      let three = and_l _ (good_slots t i) h in
      let two = and_l _ (leb (marks_of t i) MOST_MARKS) three in
      let count = and_r (not (eqb (number_of t i) 0)) _ two in
      let most = within_hi 1 LANGUAGE_LETTERS (letter_count t i) count in
      record {
        number = eqb-false _ _ (not-true _ (and_l _ (within 1 LANGUAGE_LETTERS (letter_count t i)) two));
        some = within_lo 1 LANGUAGE_LETTERS (letter_count t i) count;
        most = most;
        marks = leb-true _ _ (and_r (not (eqb (number_of t i) 0) && within 1 LANGUAGE_LETTERS (letter_count t i)) _ three);
        used = λ k b. rw (lt-ltb k (letter_count t i) b) at (each_at (slot_good t i) LANGUAGE_LETTERS
            (and_r (not (eqb (number_of t i) 0) && within 1 LANGUAGE_LETTERS (letter_count t i) && leb (marks_of t i) MOST_MARKS) _ h)
            k (omega arith));
      }

-- the first record with a number that a record has
pub first_record_small : (t : List ℕ) (x : ℕ) → first_record t x ≤ languages t
unfolding first_record
first_record_small t x = first_within _ _

pub first_record_has : (t : List ℕ) (x : ℕ) → first_record t x < languages t → number_of t (first_record t x) ≡ x
unfolding first_record
first_record_has t x h = eqb-true _ _ (first_found (λ i. eqb (number_of t i) x) (languages t) h)

pub first_record_before : (t : List ℕ) (x i : ℕ) → i < first_record t x → number_of t i ≡ x → ⊥
unfolding first_record
first_record_before t x i h = eqb-false _ _ (first_before (λ j. eqb (number_of t j) x) (languages t) i h)

module _ (t : List ℕ) (i : ℕ) where
  pub number_is : (r : ℕ) → Word t (i * LANGUAGE_RECORD) r → r ≡ number_of t i
  unfolding number_of
  number_is r w = w.is

  pub count_is : (r : ℕ) → Word t (i * LANGUAGE_RECORD + COUNT_AT) r → r % 65536 ≡ letter_count t i
  unfolding letter_count
  count_is r w = w.low

  pub marks_is : (r : ℕ) → Word t (i * LANGUAGE_RECORD + COUNT_AT) r → r / 65536 ≡ marks_of t i
  unfolding marks_of
  marks_is r w = let e : i * LANGUAGE_RECORD + COUNT_AT + 2 ≡ i * LANGUAGE_RECORD + MARKS_AT = omega arith in rw e at w.high

  pub slot_is : (k r : ℕ) → Word t (i * LANGUAGE_RECORD + SLOTS_AT + SLOT * k) r → r ≡ slot_at t i k
  unfolding slot_at
  slot_is k r w = w.is
