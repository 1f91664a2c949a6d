-- Of eight ratios that are plain one is the greatest (`greatest_some`), so that the detector has a number of at most 8 (`detector_few`). It is none exactly where each ratio is at most 0
-- (`detector_none`, `none_detector`); else its ratio is at least each (`detector_greatest`) and above those before it (`detector_first`).
-- Assumes nothing.
use Prim.Native.Nat.{ℕ, zero, suc, ◌+◌, ◌*◌, ◌≤◌, ◌<◌}
use mathlib.Core.Path.{◌≡◌, refl, sym, ◌∙◌}
use mathlib.Core.Bool.{true, false, true≢false}
use mathlib.Core.List.{List, [], ◌∷◌}
use native.Mathlib.Nat.{not-suc-le-zero, le_of_suc-le-suc, le_trans}
use native.Mathlib.Omega.{arith}
use lib.Dec.{leb}
use lib.Ieee.{Float, nan, le}
use lib.ListN.{length, get_or}
use lib.Pow.{pow_pos}
use borrow.Author.Tests.{le-leb, leb-true}
use Rattle.base.specs.First.{first, each}
use Rattle.base.specs.Inner.All.{All}
use Rattle.base.proofs.Laws.First.{first_within, first_found, first_before, each_all, each_at}
use Rattle.base.proofs.Laws.Tests.{by_bool, by_test, split}
use Rattle.ratio.specs.declared.Ratios.{Ratios}
use Rattle.ratio.specs.Parts.{ONE}
use Rattle.ratio.specs.Fraction.{nothing}
use Rattle.ratio.specs.Rounded.{ZERO}
use Rattle.ratio.specs.Eight.{DETECTORS, list_ratios}
use Rattle.ratio.specs.Inner.Eight.{EachPlain}
use Rattle.ratio.specs.Inner.Finite.{Plain}
use Rattle.ratio.proofs.Laws.Comparing.{le_is}
use Rattle.ratio.proofs.Laws.Rounded.{rounded_nothing, rounded_plain}
use Rattle.md_reason_meaning.specs.Greatest.{NO_DETECTOR, ratio_at, at_least_all, first_greatest, detector_of}

-- inside a list it does not matter what would stand past its end
inside : {A : Type 0} (l : List A) (k : ℕ) (x y : A) → k < length l → get_or l k x ≡ get_or l k y
inside [] k x y h = absurd (not-suc-le-zero h)
inside (z ∷ l) zero x y h = refl
inside (z ∷ l) (suc k) x y h = inside l k x y (le_of_suc-le-suc h)

pub ratio_read : (r : Ratios) (k : ℕ) → k < DETECTORS → get_or (list_ratios r) k nan ≡ ratio_at r k
ratio_read r k h = inside (list_ratios r) k nan ZERO h

-- the greatest of n numbers
record Best (f : ℕ → ℕ) (n : ℕ) : Type 0 where
  place : ℕ
  inside : place < n
  most : (j : ℕ) → j < n → f j ≤ f place

best : (f : ℕ → ℕ) (n : ℕ) → Best f (suc n)
best f zero = record { place = 0; inside = omega arith; most = λ j h. let e : j ≡ 0 = omega arith in rw e (omega arith) }
best f (suc n) =
    let b = best f n in
    split (f b.place) (f (suc n))
    (λ h. record { place = suc n; inside = omega arith; most = λ j l. split j (suc n) (λ k. let m = b.most j k in omega arith) (λ k. let e : j ≡ suc n = omega arith in rw e (omega arith)) })
    (λ h. record { place = b.place; inside = omega (arith, b.inside); most = λ j l. split j (suc n) (λ k. b.most j k) (λ k. let e : j ≡ suc n = omega arith in rw e h) })

pub zero_plain : Plain ZERO
zero_plain = rw rounded_nothing at (rounded_plain nothing (record { small = record { num = omega arith; den = omega arith }; positive = omega arith }))

-- each of a list of plain ones is plain, and so is what stands past its end
plain_at : (l : List Float) → All Plain l → (k : ℕ) → Plain (get_or l k ZERO)
plain_at [] p k = zero_plain
plain_at (x ∷ l) p zero = p.0
plain_at (x ∷ l) p (suc k) = plain_at l p.1 k

-- two plain ones are compared by their sizes
abbrev pub sized : {x : Float} → Plain x → ℕ
sized p = p.size * ONE

pub le_plain : (x y : Float) (p : Plain x) (q : Plain y) → le x y ≡ leb (sized p) (sized q)
le_plain x y p q = le_is p.size ONE q.size ONE (pow_pos 149) (pow_pos 149) x y p.value q.value

pub le_through : (x y z : Float) → Plain x → Plain y → Plain z → le x y ≡ true → le y z ≡ true → le x z ≡ true
le_through x y z p q r a b =
    let m = leb-true (sized p) (sized q) (sym (le_plain x y p q) ∙ a) in
    let n = leb-true (sized q) (sized r) (sym (le_plain y z q r) ∙ b) in
    le_plain x z p r ∙ le-leb (sized p) (sized r) (le_trans m n)

pub first_few : (r : Ratios) → first_greatest r ≤ DETECTORS
unfolding first_greatest
first_few r = first_within (λ k. at_least_all (ratio_at r k) r) DETECTORS

module _ (r : Ratios) (plain : EachPlain r) where
  pub ratio_plain_at : (k : ℕ) → Plain (ratio_at r k)
  ratio_plain_at k = plain_at (list_ratios r) plain k

  -- what is at least one that is at least each is at least each
  pub all_below : (x y : Float) → Plain x → Plain y → at_least_all x r ≡ true → le x y ≡ true → at_least_all y r ≡ true
  unfolding at_least_all
  all_below x y p q a t =
      each_all (λ j. le (ratio_at r j) y) DETECTORS
      (λ j h. le_through (ratio_at r j) x y (ratio_plain_at j) p q (each_at (λ i. le (ratio_at r i) x) DETECTORS a j h) t)

  pub greatest_some : first_greatest r < DETECTORS
  unfolding first_greatest at_least_all
  greatest_some =
      let b = best (λ k. sized (ratio_plain_at k)) 7 in
      split (first (λ k. each (λ j. le (ratio_at r j) (ratio_at r k)) DETECTORS) DETECTORS) DETECTORS
      (λ h. h)
      (λ h. absurd (true≢false
      (sym (each_all (λ j. le (ratio_at r j) (ratio_at r b.place)) DETECTORS
      (λ j l. le_plain (ratio_at r j) (ratio_at r b.place) (ratio_plain_at j) (ratio_plain_at b.place) ∙ le-leb _ _ (b.most j l)))
      ∙ first_before (λ k. each (λ j. le (ratio_at r j) (ratio_at r k)) DETECTORS) DETECTORS b.place (omega (arith, b.inside)))))

  pub detector_few : detector_of r ≤ DETECTORS
  unfolding detector_of
  detector_few = by_test (λ (d : ℕ). d ≤ DETECTORS) (at_least_all ZERO r) NO_DETECTOR (first_greatest r + 1) (λ e. omega arith) (λ e. omega (arith, greatest_some))

  -- it is none exactly where each ratio is at most 0
  pub detector_none : detector_of r ≡ NO_DETECTOR → at_least_all ZERO r ≡ true
  unfolding detector_of
  detector_none e = by_bool (at_least_all ZERO r) (λ t. t) (λ t. absurd (above (rw t at e)))
    where
      above : first_greatest r + 1 ≡ 0 → ⊥
      above z = omega arith

  pub none_detector : at_least_all ZERO r ≡ true → detector_of r ≡ NO_DETECTOR
  unfolding detector_of
  none_detector t = rw t

  module _ (k : ℕ) (e : detector_of r ≡ k + 1) where
    some : at_least_all ZERO r ≡ false
    unfolding detector_of
    some = by_bool (at_least_all ZERO r) (λ t. absurd (below (rw t at e))) (λ t. t)
      where
        below : 0 ≡ k + 1 → ⊥
        below z = omega arith

    is_first_lem : first_greatest r ≡ k
    unfolding detector_of
    is_first_lem = same (rw some at e)
      where
        same : first_greatest r + 1 ≡ k + 1 → first_greatest r ≡ k
        same z = omega arith

    -- else its ratio is above 0
    pub detector_some : at_least_all ZERO r ≡ false
    detector_some = some

    pub detector_at_least : at_least_all (ratio_at r k) r ≡ true
    unfolding first_greatest
    detector_at_least = rw is_first_lem at (first_found (λ j. at_least_all (ratio_at r j) r) DETECTORS greatest_some)

    -- it is at least each
    pub detector_greatest : (j : ℕ) → j < DETECTORS → le (ratio_at r j) (ratio_at r k) ≡ true
    unfolding at_least_all
    detector_greatest j h = each_at (λ i. le (ratio_at r i) (ratio_at r k)) DETECTORS detector_at_least j h

    -- and above those before it
    pub detector_first : (j : ℕ) → j < k → le (ratio_at r k) (ratio_at r j) ≡ false
    unfolding first_greatest
    detector_first j h = by_bool (le (ratio_at r k) (ratio_at r j)) (λ t. absurd (true≢false (sym (too t) ∙ not_yet))) (λ t. t)
      where
        not_yet : at_least_all (ratio_at r j) r ≡ false
        not_yet = first_before (λ i. at_least_all (ratio_at r i) r) DETECTORS j (omega (arith, is_first_lem))

        too : le (ratio_at r k) (ratio_at r j) ≡ true → at_least_all (ratio_at r j) r ≡ true
        too t = all_below (ratio_at r k) (ratio_at r j) (ratio_plain_at k) (ratio_plain_at j) detector_at_least t
