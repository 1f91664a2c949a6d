-- Where the quick test passes, what is left of the check is that of the expansion (`sound_same`); and whatever it says, `beyond_table` and then the
-- expansion's own check say what the check of the compact table does (`beyond_then`). A compact table that passes has its parts in order (`Good`).
-- Assumes nothing.
use Rattle.std.specs.Prelude.{Result, Ok, Err, ⊤}
use Prim.Native.Nat.{ℕ, ◌*◌, ◌%◌, ◌≤◌, ◌<◌}
use mathlib.Core.Path.{◌≡◌, refl, sym, ap, ◌∙◌}
use mathlib.Core.Bool.{true, false, not, ◌&&◌, ◌||◌}
use mathlib.Core.List.{List, [], ◌∷◌}
use native.Mathlib.Omega.{arith}
use lib.ListN.{length}
use lib.Dec.{eqb, ltb}
use borrow.Author.Tests.{eqb-true, eq-eqb, ne_eqb, ltb-false, lt-ltb, le-ltb, not-true, not-false}
use Rattle.base.specs.declared.Refusal.{Refusal}
use Rattle.base.specs.Causes.{refused_at, given, first_of}
use Rattle.base.specs.First.{first, each}
use Rattle.base.specs.Limits.{CLASS_RECORD, MOST_CLASSES}
use Rattle.base.specs.declared.refusals.Cause.TheVariants.{BadClasses}
use Rattle.base.proofs.Laws.Causes.{first_one, first_on, first_refused, first_passed, first_given, first_free, given_free, free_given, given_yes}
use Rattle.base.proofs.Laws.First.{first_none, first_before, first_within, each_at}
use Rattle.base.proofs.Laws.Tests.{by_bool, split, and_l, and_r}
use Rattle.class_records.specs.Records.{records, good_at, first_bad}
use Rattle.class_records.proofs.Laws.Records.{none_bad}
use Rattle.classes.specs.Check.{bad_classes}
use Rattle.classes.proofs.Laws.Check.{record_refused, passed}
use Rattle.class_compact_meaning.specs.Form.{COMPACT_RECORD, LETTERS_RECORD, compact_records, letters_in, place_at}
use Rattle.class_compact_meaning.specs.Unpacked.{unpacked}
use Rattle.class_compact_meaning.specs.Check.{missing, bad_record_at, first_bad_record, unused, no_letters, repeated, early, bad_letters, first_bad_letters, bad_compact_length, bad_compact_number}
use Rattle.class_compact_meaning.specs.Check.{bad_compact_record, bad_letters_length, bad_letters_record, bad_compact}
use Rattle.class_compact_meaning.specs.Inner.Form.{Sized, wrong_list}
use Rattle.class_compact_meaning.specs.Inner.Sound.{in_first_use, is_own, all_own, sound, beyond_table}
use Rattle.class_compact_meaning.proofs.Laws.Firsts.{first_same, or_none, or_no_l, or_no_r}
use Rattle.class_compact_meaning.proofs.Laws.FirstUse.{place_within, order_used, order_kept_lem, used_in_order}
use Rattle.class_compact_meaning.proofs.Laws.Records.{table_bad}
use Rattle.class_compact_meaning.proofs.Laws.Unpacked.{unpacked_length, unpacked_records}

pub by_cause : {A : Type 0} (c : Result ⊤ Refusal) → (c ≡ Ok tt → A) → ((r : Refusal) → c ≡ Err r → A) → A
by_cause (Ok u) p q = p refl
by_cause (Err r) p q = q r refl

-- a place below an end, as a test
below_test : (f n : ℕ) → f ≤ n → ltb f n ≡ not (eqb f n)
below_test f n h =
    split f n
    (λ l. lt-ltb f n l ∙ sym (ap not (ne_eqb f n (λ e. omega arith))))
    (λ l. le-ltb f n l ∙ sym (ap not (eq-eqb f n (omega arith))))

-- ---- length and number
pub wrong_refused : (c l : List ℕ) → wrong_list c ≡ true → bad_compact c l ≡ refused_at BadClasses 0
unfolding wrong_list bad_compact bad_compact_length bad_compact_number
wrong_refused c l h =
    by_bool (not (eqb (length c % COMPACT_RECORD) 0))
    (λ e. first_given _ _ BadClasses 0 e)
    (λ e. first_passed _ _ BadClasses 0 e ∙ first_given _ _ BadClasses 0 (rw e at h))

pub right_sized : (c : List ℕ) → wrong_list c ≡ false → Sized c
unfolding wrong_list
right_sized c h =
    record {
      whole = eqb-true _ _ (not-false _ (or_no_l _ (ltb MOST_CLASSES (compact_records c)) h));
      few = ltb-false _ _ (or_no_r (not (eqb (length c % COMPACT_RECORD) 0)) _ h);
    }

module _ (c l : List ℕ) (s : Sized c) where
  pub past_size : bad_compact c l ≡ first_of (bad_compact_record c l ∷ bad_letters_length l ∷ bad_letters_record c l ∷ [])
  unfolding bad_compact bad_compact_length bad_compact_number
  past_size =
      first_passed _ _ BadClasses 0 (ap not (eq-eqb (length c % COMPACT_RECORD) 0 s.whole))
      ∙ first_passed _ _ BadClasses 0 (le-ltb MOST_CLASSES (compact_records c) s.few)

  -- the expansion's length and number are allowed
  table_whole : length (unpacked c l) % CLASS_RECORD ≡ 0
  table_whole = rw (unpacked_length c l) (times (compact_records c))
    where
      times : (n : ℕ) → n * CLASS_RECORD % CLASS_RECORD ≡ 0
      times n = omega arith

  table_few : records (unpacked c l) ≤ MOST_CLASSES
  table_few = rw (unpacked_records c l) s.few

  table_refused : bad_classes (unpacked c l) ≡ given (ltb (first_bad (unpacked c l)) (compact_records c)) BadClasses (first_bad (unpacked c l))
  table_refused =
      let n : first_bad (unpacked c l) ≤ compact_records c = rw (table_bad c l) (first_within _ (compact_records c)) in
      let e = below_test (first_bad (unpacked c l)) (compact_records c) n in
      by_bool (eqb (first_bad (unpacked c l)) (compact_records c))
      (λ h. passed (unpacked c l) table_whole table_few (rw (unpacked_records c l) h) ∙ sym (free_given _ BadClasses _ (e ∙ ap not h)))
      (λ h. record_refused (unpacked c l) table_whole table_few (rw (unpacked_records c l) h) ∙ sym (given_yes _ BadClasses _ (e ∙ ap not h)))

  -- ---- where the quick test passes
  module _ (h : sound c l ≡ true) where
    letters_whole : eqb (length l % LETTERS_RECORD) 0 ≡ true
    unfolding sound
    letters_whole = and_l (eqb (length l % LETTERS_RECORD) 0) (in_first_use c (letters_in l) && all_own l) h

    in_order_lem : in_first_use c (letters_in l) ≡ true
    unfolding sound
    in_order_lem = and_l (in_first_use c (letters_in l)) (all_own l) (and_r (eqb (length l % LETTERS_RECORD) 0) _ h)

    own : (k : ℕ) → k < letters_in l → is_own l k ≡ true
    unfolding sound all_own
    own = each_at (is_own l) (letters_in l) (and_r (in_first_use c (letters_in l)) (each (is_own l) (letters_in l)) (and_r (eqb (length l % LETTERS_RECORD) 0) _ h))

    letters_fine : (k : ℕ) → k < letters_in l → bad_letters c l k ≡ false
    unfolding bad_letters is_own
    letters_fine k m =
        or_none (unused c k) (no_letters l k || (repeated l k || early c k)) (order_used c (letters_in l) in_order_lem k m)
        (or_none (no_letters l k) (repeated l k || early c k) (not-true _ (and_l (not (no_letters l k)) (not (repeated l k)) (own k m)))
        (or_none (repeated l k) (early c k) (not-true _ (and_r (not (no_letters l k)) (not (repeated l k)) (own k m))) (order_kept_lem c (letters_in l) in_order_lem k m)))

    letters_allowed : bad_letters_record c l ≡ Ok tt
    unfolding bad_letters_record first_bad_letters
    letters_allowed = free_given _ BadClasses _ (le-ltb (first (bad_letters c l) (letters_in l)) (letters_in l) (rw (first_none (bad_letters c l) (letters_in l) letters_fine) (same (letters_in l))))
      where
        same : (n : ℕ) → n ≤ n
        same n = omega arith

    length_allowed : bad_letters_length l ≡ Ok tt
    unfolding bad_letters_length
    length_allowed = free_given _ BadClasses 0 (ap not letters_whole)

    none_missing : (i : ℕ) → i < compact_records c → missing c l i ≡ false
    unfolding missing
    none_missing i m = le-ltb (letters_in l) (place_at c i) (place_within c (letters_in l) in_order_lem i m)

    records_same : first_bad_record c l ≡ first_bad (unpacked c l)
    unfolding first_bad_record bad_record_at
    records_same =
        first_same (λ i. missing c l i || not (good_at (unpacked c l) i)) (λ i. not (good_at (unpacked c l) i)) (compact_records c)
        (λ i m. rw (none_missing i m))
        ∙ sym (table_bad c l)

    pub sound_same : bad_compact c l ≡ bad_classes (unpacked c l)
    unfolding bad_compact_record
    sound_same =
        past_size ∙ rw (length_allowed, letters_allowed, records_same) (last (given (ltb (first_bad (unpacked c l)) (compact_records c)) BadClasses (first_bad (unpacked c l)))) ∙ sym table_refused
      where
        last : (x : Result ⊤ Refusal) → first_of (x ∷ (Ok tt) ∷ (Ok tt) ∷ []) ≡ x
        last x = by_cause x (λ e. rw e (alone)) (λ r e. rw e (first_refused _ (Err r) r refl))
          where
            alone : first_of ((Ok tt) ∷ (Ok tt) ∷ (Ok tt) ∷ []) ≡ Ok tt
            alone = first_on _ (Ok tt) refl ∙ first_on _ (Ok tt) refl ∙ first_one (Ok tt)

  -- ---- a table that passes
  pub record Good : Type 0 where
    pub records : (i : ℕ) → i < compact_records c → bad_record_at c l i ≡ false
    pub whole : length l % LETTERS_RECORD ≡ 0
    pub letters : (k : ℕ) → k < letters_in l → bad_letters c l k ≡ false

  pub good_parts : bad_compact c l ≡ Ok tt → Good
  unfolding bad_compact_record bad_letters_length bad_letters_record first_bad_record first_bad_letters
  good_parts h =
      let a = first_free (bad_compact_record c l) _ (sym past_size ∙ h) in
      let b = first_free (bad_letters_length l) _ a.1 in
      let d : bad_letters_record c l ≡ (Ok tt) = sym (first_one (bad_letters_record c l)) ∙ b.1 in
      record {
        records = λ i m. first_before (bad_record_at c l) (compact_records c) i (reach (ltb-false _ _ (given_free _ BadClasses (first (bad_record_at c l) (compact_records c)) a.0)) m);
        whole = eqb-true _ _ (not-false _ (given_free _ BadClasses 0 b.0));
        letters = λ k m. first_before (bad_letters c l) (letters_in l) k (reach (ltb-false _ _ (given_free _ BadClasses (first (bad_letters c l) (letters_in l)) d)) m);
      }
    where
      reach : {n f i : ℕ} → n ≤ f → i < n → i < f
      reach a b = omega arith

  module _ (g : Good) where
    pub record_good : (i : ℕ) → i < compact_records c → good_at (unpacked c l) i ≡ true
    unfolding bad_record_at
    record_good i m = not-false _ (or_no_r (missing c l i) _ (g.records i m))

    pub record_there : (i : ℕ) → i < compact_records c → place_at c i ≤ letters_in l
    unfolding bad_record_at missing
    record_there i m = ltb-false _ _ (or_no_l _ (not (good_at (unpacked c l) i)) (g.records i m))

    pub table_allowed : bad_classes (unpacked c l) ≡ Ok tt
    table_allowed =
        passed (unpacked c l) table_whole table_few
        (eq-eqb _ _ (none_bad (unpacked c l) (λ i m. record_good i (rw (unpacked_records c l) at m))))

    pub good_order : in_first_use c (letters_in l) ≡ true
    unfolding bad_letters
    good_order =
        used_in_order c (letters_in l) record_there
        (λ k m. or_no_l _ _ (g.letters k m))
        (λ k m. or_no_r (repeated l k) _ (or_no_r (no_letters l k) _ (or_no_r (unused c k) _ (g.letters k m))))

    pub good_some : (k : ℕ) → k < letters_in l → no_letters l k ≡ false
    unfolding bad_letters
    good_some k m = or_no_l _ (repeated l k || early c k) (or_no_r (unused c k) _ (g.letters k m))

    pub good_once : (k : ℕ) → k < letters_in l → repeated l k ≡ false
    unfolding bad_letters
    good_once k m = or_no_l _ (early c k) (or_no_r (no_letters l k) _ (or_no_r (unused c k) _ (g.letters k m)))

  -- ---- what is left once the expansion is checked
  pub beyond_then : (cs : List (Result ⊤ Refusal)) → first_of (beyond_table c l ∷ bad_classes (unpacked c l) ∷ cs) ≡ first_of (bad_compact c l ∷ cs)
  unfolding beyond_table
  beyond_then cs =
      by_bool (sound c l)
      (λ h. rw (h, sound_same h) (first_on _ (Ok tt) refl))
      (λ h. rw h (by_cause (bad_compact c l)
      (λ e. rw e (first_on _ (Ok tt) refl ∙ rw (table_allowed (good_parts e)) refl))
      (λ r e. rw e (first_refused _ (Err r) r refl ∙ sym (first_refused cs (Err r) r refl)))))
