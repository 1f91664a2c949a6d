-- Which states are refused by 19: one law for each way in which the test returns (`not_finite_lem`, `over_long`, `over_full`, `over_range`, `by_counts`);
-- and what passed it (`free_sound`), and the other way round (`sound_free`).
-- Assumes nothing.
use Rattle.std.specs.Prelude.{Ok}
use Prim.Native.Nat.{ℕ, zero, suc, ◌*◌, ◌≤◌, ◌<◌}
use mathlib.Core.Path.{◌≡◌, refl}
use mathlib.Core.Bool.{Bool, true, false, not, ◌||◌}
use mathlib.Core.List.{List, [], ◌∷◌}
use native.Mathlib.Nat.{le_of_suc-le-suc, not-suc-le-zero}
use native.Mathlib.Omega.{arith}
use lib.Dec.{ltb}
use lib.ListN.{length, get_or}
use borrow.Author.Tests.{lt-ltb, le-ltb, ltb-false, not-false}
use Rattle.base.specs.Causes.{refused_at}
use Rattle.base.specs.Limits.{LONGEST_TEXT, LAST_RANGE}
use Rattle.base.specs.declared.refusals.Cause.TheVariants.{BadState}
use Rattle.base.proofs.Laws.Causes.{given_yes, given_free, free_given}
use Rattle.ratio.specs.Finite.{is_finite}
use Rattle.md_eight.specs.Detectors.{last_range}
use Rattle.md_running_meaning.specs.declared.Running.{Running}
use Rattle.md_running_meaning.specs.State.{TWICE, eight_of, counts_in, any_above, unsound, bad_state}
use Rattle.md_running_meaning.specs.Inner.Sound.{Sound}

neither_l : (a b : Bool) → a || b ≡ false → a ≡ false
neither_l true b e = e
neither_l false b e = refl

neither_r : (a b : Bool) → a || b ≡ false → b ≡ false
neither_r true b e = let z : true ≡ false = e in bad z
  where
    bad : {b : Bool} → true ≡ false → b ≡ false
    bad z = cc
neither_r false b e = e

neither : {a b : Bool} → a ≡ false → b ≡ false → a || b ≡ false
neither p q = cc (p, q)

-- no number of the list is above m exactly if each is at most m
none_above : (m : ℕ) (l : List ℕ) → any_above m l ≡ false → (i : ℕ) → i < length l → get_or l i 0 ≤ m
unfolding any_above
none_above m [] e i h = absurd (not-suc-le-zero h)
none_above m (x ∷ l) e zero h = ltb-false m x (neither_l (ltb m x) (any_above m l) e)
none_above m (x ∷ l) e (suc i) h = none_above m l (neither_r (ltb m x) (any_above m l) e) i (le_of_suc-le-suc h)

each_below : (m : ℕ) (l : List ℕ) → ((i : ℕ) → i < length l → get_or l i 0 ≤ m) → any_above m l ≡ false
unfolding any_above
each_below m [] h = refl
each_below m (x ∷ l) h = neither (le-ltb m x (h 0 (omega arith))) (each_below m l (λ i k. h (suc i) (omega arith)))

module _ (s : Running) where
  pub not_finite_lem : is_finite s.threshold ≡ false → true ≡ unsound s
  unfolding unsound
  not_finite_lem e = rw e

  module _ (f : is_finite s.threshold ≡ true) where
    pub over_long : LONGEST_TEXT < s.length → true ≡ unsound s
    unfolding unsound
    over_long h = rw (f, lt-ltb _ _ h)

    module _ (g : s.length ≤ LONGEST_TEXT) where
      pub over_full : s.length < s.received → true ≡ unsound s
      unfolding unsound
      over_full h = rw (f, le-ltb _ _ g, lt-ltb _ _ h)

      module _ (d : s.received ≤ s.length) where
        pub over_range : LAST_RANGE < last_range (eight_of s) → true ≡ unsound s
        unfolding unsound
        over_range h = rw (f, le-ltb _ _ g, le-ltb _ _ d, lt-ltb _ _ h)

        pub by_counts : last_range (eight_of s) ≤ LAST_RANGE → any_above (TWICE * s.received) (counts_in s) ≡ unsound s
        unfolding unsound
        by_counts h = rw (f, le-ltb _ _ g, le-ltb _ _ d, le-ltb _ _ h)

  pub unsound_bad : unsound s ≡ true → bad_state s ≡ refused_at BadState 0
  unfolding bad_state
  unsound_bad e = given_yes _ BadState 0 e

  pub sound_good : unsound s ≡ false → bad_state s ≡ Ok tt
  unfolding bad_state
  sound_good e = free_given _ BadState 0 e

  -- the five tests, from the last one
  abbrev from_counts : Bool
  from_counts = any_above (TWICE * s.received) (counts_in s)

  abbrev from_range : Bool
  from_range = ltb LAST_RANGE (last_range (eight_of s)) || from_counts

  abbrev from_received : Bool
  from_received = ltb s.length s.received || from_range

  abbrev from_length : Bool
  from_length = ltb LONGEST_TEXT s.length || from_received

  pub sound_of : unsound s ≡ false → Sound s
  unfolding unsound
  sound_of u =
      let u1 = neither_r (not (is_finite s.threshold)) from_length u in
      let u2 = neither_r (ltb LONGEST_TEXT s.length) from_received u1 in
      let u3 = neither_r (ltb s.length s.received) from_range u2 in
      record {
        finite = not-false (is_finite s.threshold) (neither_l (not (is_finite s.threshold)) from_length u);
        short = ltb-false LONGEST_TEXT s.length (neither_l (ltb LONGEST_TEXT s.length) from_received u1);
        declared = ltb-false s.length s.received (neither_l (ltb s.length s.received) from_range u2);
        range = ltb-false LAST_RANGE (last_range (eight_of s)) (neither_l (ltb LAST_RANGE (last_range (eight_of s))) from_counts u3);
        counts = none_above (TWICE * s.received) (counts_in s) (neither_r (ltb LAST_RANGE (last_range (eight_of s))) from_counts u3);
      }

  pub of_sound : Sound s → unsound s ≡ false
  unfolding unsound
  of_sound p =
      rw (p.finite, le-ltb LONGEST_TEXT s.length p.short, le-ltb s.length s.received p.declared, le-ltb LAST_RANGE (last_range (eight_of s)) p.range)
      (each_below (TWICE * s.received) (counts_in s) p.counts)

  pub free_unsound : bad_state s ≡ Ok tt → unsound s ≡ false
  unfolding bad_state
  free_unsound e = given_free _ BadState 0 e

  pub free_sound : bad_state s ≡ Ok tt → Sound s
  free_sound e = sound_of (free_unsound e)

  pub sound_free : Sound s → bad_state s ≡ Ok tt
  sound_free p = sound_good (of_sound p)
