-- Laws of the check: its returns one by one; a table that passes is good (`passed_good`, `free_good`), and a good one passes (`good_passes`,
-- `good_free`).
-- Assumes nothing.
use Rattle.std.specs.Prelude.{Ok}
use Prim.Native.Nat.{ℕ, ◌%◌, ◌≤◌, ◌<◌}
use mathlib.Core.Path.{◌≡◌, ap, ◌∙◌}
use mathlib.Core.List.{List, [], ◌∷◌}
use mathlib.Core.Bool.{true, false, not, ◌&&◌}
use lib.ListN.{length}
use lib.Dec.{leb, eqb}
use borrow.Author.Tests.{leb-true, le-leb, le-ltb, lt-ltb, ltb-false, eqb-true, eq-eqb, ne_eqb, not-false}
use Rattle.base.specs.Causes.{refused_at, first_of}
use Rattle.base.specs.Limits.{CLASS_RECORD, MOST_CLASSES}
use Rattle.base.specs.declared.refusals.Cause.TheVariants.{BadClasses}
use Rattle.base.proofs.Laws.First.{first_within}
use Rattle.base.proofs.Laws.Tests.{and_l, and_r, and_yes}
use Rattle.base.proofs.Laws.Causes.{first_given, first_passed, first_free, given_free}
use Rattle.base.proofs.Laws.Counted.{counted_allowed, count_allowed, count_is}
use Rattle.class_records.specs.Records.{records, first_bad, good_table}
use Rattle.classes.specs.Check.{bad_length, bad_number, bad_record, bad_classes, checked}

module _ (t : List ℕ) where
  pub length_refused : (length t % CLASS_RECORD ≡ 0 → ⊥) → bad_classes t ≡ refused_at BadClasses 0
  unfolding bad_classes bad_length
  length_refused h = first_given _ _ BadClasses 0 (ap not (ne_eqb _ _ h))

  module _ (whole : length t % CLASS_RECORD ≡ 0) where
    past_length : bad_classes t ≡ first_of (bad_number t ∷ bad_record t ∷ [])
    unfolding bad_classes bad_length
    past_length = first_passed _ _ BadClasses 0 (ap not (eq-eqb (length t % CLASS_RECORD) 0 whole))

    pub number_refused : MOST_CLASSES < records t → bad_classes t ≡ refused_at BadClasses 0
    unfolding bad_number
    number_refused h = past_length ∙ first_given _ _ BadClasses 0 (lt-ltb _ _ h)

    module _ (fits : records t ≤ MOST_CLASSES) where
      past_number : bad_classes t ≡ first_of (bad_record t ∷ [])
      unfolding bad_number
      past_number = past_length ∙ first_passed _ _ BadClasses 0 (le-ltb MOST_CLASSES (records t) fits)

      pub record_refused : eqb (first_bad t) (records t) ≡ false → bad_classes t ≡ refused_at BadClasses (first_bad t)
      unfolding bad_record
      record_refused h = past_number ∙ first_given _ _ BadClasses (first_bad t) (ap not h)

      pub passed : eqb (first_bad t) (records t) ≡ true → bad_classes t ≡ Ok tt
      unfolding bad_record first_of
      passed h = past_number ∙ first_passed [] _ BadClasses (first_bad t) (ap not h)

  -- what has no fault is good, and the other way round
  pub free_good : bad_classes t ≡ Ok tt → good_table t ≡ true
  unfolding bad_classes bad_length bad_number bad_record good_table
  free_good e =
      let a = first_free (bad_length t) _ e in
      let b = first_free (bad_number t) _ a.1 in
      let c = first_free (bad_record t) _ b.1 in
      and_yes
      (and_yes (not-false (eqb (length t % CLASS_RECORD) 0) (given_free _ BadClasses 0 a.0)) (le-leb _ _ (ltb-false MOST_CLASSES (records t) (given_free _ BadClasses 0 b.0))))
      (not-false (eqb (first_bad t) (records t)) (given_free _ BadClasses (first_bad t) c.0))

  pub good_free : good_table t ≡ true → bad_classes t ≡ Ok tt
  unfolding good_table
  good_free g =
      let two = and_l _ (eqb (first_bad t) (records t)) g in
      passed
      (eqb-true _ _ (and_l _ (leb (records t) MOST_CLASSES) two))
      (leb-true _ _ (and_r (eqb (length t % CLASS_RECORD) 0) _ two))
      (and_r (eqb (length t % CLASS_RECORD) 0 && leb (records t) MOST_CLASSES) _ g)

-- what passes is good, and its number is that of its records
pub record Passed (t : List ℕ) (n : ℕ) : Type 0 where
  pub good : good_table t ≡ true
  pub count : n ≡ records t

pub passed_good : (t : List ℕ) (n : ℕ) → checked t ≡ Ok n → Passed t n
unfolding checked
passed_good t n e =
    record { good = free_good t (count_allowed (bad_classes t) (records t) n e); count = count_is (bad_classes t) (records t) n e }

pub good_passes : (t : List ℕ) → good_table t ≡ true → checked t ≡ Ok (records t)
unfolding checked
good_passes t g = counted_allowed (bad_classes t) (records t) (good_free t g)

-- a table that passes has few records
pub free_few : (t : List ℕ) → bad_classes t ≡ Ok tt → records t ≤ MOST_CLASSES
unfolding good_table
free_few t e =
    leb-true _ _
    (and_r (eqb (length t % CLASS_RECORD) 0) _ (and_l (eqb (length t % CLASS_RECORD) 0 && leb (records t) MOST_CLASSES) (eqb (first_bad t) (records t)) (free_good t e)))

-- the place of a refusal is a record of the table, or 0
pub first_bad_small : (t : List ℕ) → first_bad t ≤ records t
unfolding first_bad
first_bad_small t = first_within _ _
