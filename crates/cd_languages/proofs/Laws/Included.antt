-- Laws of the included numbers: the causes of the check one by one; a list that passes is permitted, and one that is permitted passes.
-- Assumes nothing.
use Rattle.std.specs.Prelude.{Ok}
use Prim.Native.Nat.{ℕ, ◌≤◌, ◌<◌}
use mathlib.Core.Path.{◌≡◌, ◌∙◌}
use mathlib.Core.List.{List}
use mathlib.Core.Bool.{true, false, not, ◌&&◌}
use native.Mathlib.Omega.{arith}
use lib.ListN.{length, get_or}
use lib.Dec.{ltb}
use borrow.Author.Tests.{le-ltb, lt-ltb, ltb-false, not-false}
use Rattle.base.specs.Causes.{refused_at}
use Rattle.base.specs.Limits.{MOST_INCLUDED}
use Rattle.base.specs.declared.refusals.Cause.TheVariants.{BadIncluded}
use Rattle.base.proofs.Laws.First.{first_within, first_before, first_none}
use Rattle.base.proofs.Laws.Tests.{by_bool}
use Rattle.base.proofs.Laws.Causes.{no_cause, first_given, first_passed, first_free, given_free}
use Rattle.base.proofs.Laws.Counted.{counted_allowed, count_allowed}
use Rattle.cd_languages.specs.Included.{lone_zero, in_table, first_missing, bad_included, checked_included}
use Rattle.cd_languages.specs.Inner.Permitted.{Permitted}

module _ (l t : List ℕ) where
  -- one law for each return
  pub over_refused : MOST_INCLUDED < length l → bad_included l t ≡ refused_at BadIncluded 0
  unfolding bad_included
  over_refused h = first_given _ _ BadIncluded 0 (lt-ltb MOST_INCLUDED (length l) h)

  pub first_missing_small : first_missing l t ≤ length l
  unfolding first_missing
  first_missing_small = first_within _ _

  module _ (fits : length l ≤ MOST_INCLUDED) where
    second_passed : not (lone_zero l) && ltb (first_missing l t) (length l) ≡ false → bad_included l t ≡ Ok tt
    unfolding bad_included
    second_passed e =
        first_passed _ _ BadIncluded 0 (le-ltb MOST_INCLUDED (length l) fits) ∙ first_passed _ _ BadIncluded (first_missing l t) e ∙ no_cause

    pub lone_allowed : lone_zero l ≡ true → bad_included l t ≡ Ok tt
    lone_allowed e = second_passed (rw e)

    pub none_missing : length l ≤ first_missing l t → bad_included l t ≡ Ok tt
    none_missing h = second_passed (by_bool (lone_zero l) (λ e. rw e) (λ e. rw (e, le-ltb (first_missing l t) (length l) h)))

    pub number_refused : lone_zero l ≡ false → first_missing l t < length l → bad_included l t ≡ refused_at BadIncluded (first_missing l t)
    unfolding bad_included
    number_refused e h =
        first_passed _ _ BadIncluded 0 (le-ltb MOST_INCLUDED (length l) fits)
        ∙ first_given _ _ BadIncluded (first_missing l t) (rw (e, lt-ltb (first_missing l t) (length l) h))

  -- a list that has no cause is permitted, and the other way round
  pub free_permitted : bad_included l t ≡ Ok tt → Permitted l t
  unfolding bad_included first_missing
  free_permitted e =
      let a = first_free _ _ e in
      let b = first_free _ _ a.1 in
      let second : not (lone_zero l) && ltb (first_missing l t) (length l) ≡ false = given_free _ BadIncluded (first_missing l t) b.0 in
      record {
        few = ltb-false MOST_INCLUDED (length l) (given_free _ BadIncluded 0 a.0);
        known = λ z i h.
            let m : length l ≤ first_missing l t = ltb-false (first_missing l t) (length l) (rw z at second) in
            not-false _ (first_before (λ j. not (in_table t (get_or l j 0))) (length l) i (omega arith));
      }

  pub permitted_free : Permitted l t → bad_included l t ≡ Ok tt
  unfolding first_missing
  permitted_free p =
      by_bool (lone_zero l)
      (λ e. lone_allowed p.few e)
      (λ e. let all : first_missing l t ≡ length l =
      first_none (λ j. not (in_table t (get_or l j 0))) (length l) (λ j h. rw (p.known e j h)) in
      none_missing p.few (omega arith))

  -- the same of the answer
  pub passed_permitted : (n : ℕ) → checked_included l t ≡ Ok n → Permitted l t
  unfolding checked_included
  passed_permitted n e = free_permitted (count_allowed _ _ _ e)

  pub permitted_passes : Permitted l t → checked_included l t ≡ Ok (length l)
  unfolding checked_included
  permitted_passes p = counted_allowed _ _ (permitted_free p)
