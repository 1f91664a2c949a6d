-- Laws of the check of a language table: its causes one by one; a table that passes is good, and a good one passes.
-- Assumes nothing.
use Rattle.std.specs.Prelude.{Ok}
use Prim.Native.Nat.{ℕ, ◌%◌, ◌≤◌, ◌<◌}
use mathlib.Core.Path.{◌≡◌, ◌∙◌}
use mathlib.Core.List.{List}
use mathlib.Core.Bool.{true, false, not, ◌&&◌}
use native.Mathlib.Omega.{arith}
use lib.ListN.{length}
use lib.Dec.{leb, eqb}
use borrow.Author.Tests.{leb-true, le-leb, le-ltb, lt-ltb, ltb-false, eqb-true, eq-eqb, ne_eqb, not-false}
use Rattle.base.specs.Causes.{refused_at}
use Rattle.base.specs.Limits.{LANGUAGE_RECORD, MOST_LANGUAGES}
use Rattle.base.specs.declared.refusals.Cause.TheVariants.{BadLanguages}
use Rattle.base.specs.First.{each}
use Rattle.base.proofs.Laws.First.{first_within, first_each, each_first}
use Rattle.base.proofs.Laws.Tests.{and_l, and_r, and_yes}
use Rattle.base.proofs.Laws.Causes.{no_cause, first_given, first_passed, first_free, given_free}
use Rattle.base.proofs.Laws.Counted.{counted_allowed, count_allowed, count_is}
use Rattle.cd_languages.specs.Languages.{languages, good_record, first_bad}
use Rattle.cd_languages.specs.Inner.Languages.{good_languages}
use Rattle.cd_languages.specs.Check.{bad_languages, checked}

module _ (t : List ℕ) where
  -- one law for each return
  pub length_refused : (length t % LANGUAGE_RECORD ≡ 0 → ⊥) → bad_languages t ≡ refused_at BadLanguages 0
  unfolding bad_languages
  length_refused h = first_given _ _ BadLanguages 0 (rw (ne_eqb (length t % LANGUAGE_RECORD) 0 h))

  module _ (whole : length t % LANGUAGE_RECORD ≡ 0) where
    length_passed : not (eqb (length t % LANGUAGE_RECORD) 0) ≡ false
    length_passed = rw (eq-eqb (length t % LANGUAGE_RECORD) 0 whole)

    pub number_refused : MOST_LANGUAGES < languages t → bad_languages t ≡ refused_at BadLanguages 0
    unfolding bad_languages
    number_refused h =
        first_passed _ _ BadLanguages 0 length_passed ∙ first_given _ _ BadLanguages 0 (lt-ltb MOST_LANGUAGES (languages t) h)

    module _ (few : languages t ≤ MOST_LANGUAGES) where
      pub record_refused : first_bad t < languages t → bad_languages t ≡ refused_at BadLanguages (first_bad t)
      unfolding bad_languages
      record_refused h =
          first_passed _ _ BadLanguages 0 length_passed
          ∙ first_passed _ _ BadLanguages 0 (le-ltb MOST_LANGUAGES (languages t) few)
          ∙ first_given _ _ BadLanguages (first_bad t) (lt-ltb (first_bad t) (languages t) h)

      pub none_refused : languages t ≤ first_bad t → bad_languages t ≡ Ok tt
      unfolding bad_languages
      none_refused h =
          first_passed _ _ BadLanguages 0 length_passed
          ∙ first_passed _ _ BadLanguages 0 (le-ltb MOST_LANGUAGES (languages t) few)
          ∙ first_passed _ _ BadLanguages (first_bad t) (le-ltb (first_bad t) (languages t) h)
          ∙ no_cause

  -- a table that has no cause is good, and the other way round
  pub free_good : bad_languages t ≡ Ok tt → good_languages t ≡ true
  unfolding bad_languages good_languages first_bad
  free_good e =
      let a = first_free _ _ e in
      let b = first_free _ _ a.1 in
      let c = first_free _ _ b.1 in
      and_yes (and_yes
      (not-false (eqb (length t % LANGUAGE_RECORD) 0) (given_free (not (eqb (length t % LANGUAGE_RECORD) 0)) BadLanguages 0 a.0))
      (le-leb _ _ (ltb-false MOST_LANGUAGES (languages t) (given_free _ BadLanguages 0 b.0))))
      (first_each (good_record t) (languages t) (ltb-false (first_bad t) (languages t) (given_free _ BadLanguages (first_bad t) c.0)))

  pub good_free : good_languages t ≡ true → bad_languages t ≡ Ok tt
  unfolding good_languages first_bad
  good_free g =
      let two = and_l _ (each (good_record t) (languages t)) g in
      let none : first_bad t ≡ languages t =
      each_first (good_record t) (languages t) (and_r (eqb (length t % LANGUAGE_RECORD) 0 && leb (languages t) MOST_LANGUAGES) _ g) in
      none_refused
      (eqb-true _ _ (and_l _ (leb (languages t) MOST_LANGUAGES) two))
      (leb-true _ _ (and_r (eqb (length t % LANGUAGE_RECORD) 0) _ two))
      (omega arith)

  good_few : good_languages t ≡ true → languages t ≤ MOST_LANGUAGES
  unfolding good_languages
  good_few g =
      leb-true _ _ (and_r (eqb (length t % LANGUAGE_RECORD) 0) _ (and_l _ (each (good_record t) (languages t)) g))

  pub free_few : bad_languages t ≡ Ok tt → languages t ≤ MOST_LANGUAGES
  free_few e = good_few (free_good e)

  -- the place of a refusal is a record of the table, or 0
  pub first_bad_small : first_bad t ≤ languages t
  unfolding first_bad
  first_bad_small = first_within _ _

-- what passes is good, and its number is that of its records
pub record Passed (t : List ℕ) (n : ℕ) : Type 0 where
  pub good : good_languages t ≡ true
  pub count : n ≡ languages t

pub passed_good : (t : List ℕ) (n : ℕ) → checked t ≡ Ok n → Passed t n
unfolding checked
passed_good t n e = record { good = free_good t (count_allowed _ _ _ e); count = count_is _ _ _ e }

pub good_passes : (t : List ℕ) → good_languages t ≡ true → checked t ≡ Ok (languages t)
unfolding checked
good_passes t g = counted_allowed _ _ (good_free t g)
