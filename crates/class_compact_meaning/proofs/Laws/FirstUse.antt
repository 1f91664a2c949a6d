-- Letters that are first used in their order, said in two ways: each is used, and none before its predecessor (Check); and no record's place is more than
-- one past the largest before it, and the largest of all is their number (Inner.Sound). The one follows from the other (`used_in_order`, `order_used`).
-- Assumes nothing.
use Prim.Native.Nat.{ℕ, zero, suc, ◌+◌, ◌-◌, ◌≤◌, ◌<◌}
use mathlib.Core.Path.{◌≡◌, sym, ap}
use mathlib.Core.Bool.{true, false}
use mathlib.Core.List.{List}
use native.Mathlib.Omega.{arith}
use lib.Dec.{eqb, leb, ltb}
use borrow.Author.Tests.{eqb-true, eqb-false, eq-eqb, ne_eqb, leb-true, le-leb, ltb-true, ltb-false, lt-ltb, le-ltb}
use Rattle.base.specs.First.{each}
use Rattle.base.proofs.Laws.First.{first_found, first_within, each_at, each_all}
use Rattle.base.proofs.Laws.Tests.{by_bool, by_test, split, and_l, and_r, and_yes}
use Rattle.class_compact_meaning.specs.Form.{compact_records, place_at}
use Rattle.class_compact_meaning.specs.Check.{first_use, unused, early}
use Rattle.class_compact_meaning.specs.Inner.Sound.{seen_before, next_only, in_first_use}
use Rattle.class_compact_meaning.proofs.Laws.Firsts.{first_least}

module _ (c : List ℕ) where
  -- ---- the largest place before a record
  seen_step : (i : ℕ) → (seen_before c i ≤ seen_before c (suc i)) × (place_at c i ≤ seen_before c (suc i))
  unfolding seen_before
  seen_step i =
      by_test (λ (m : ℕ). (seen_before c i ≤ m) × (place_at c i ≤ m)) (ltb (seen_before c i) (place_at c i)) (place_at c i) (seen_before c i)
      (λ e. (omega (arith, ltb-true (seen_before c i) (place_at c i) e), omega arith))
      (λ e. (omega arith, ltb-false _ _ e))

  pub place_seen : (i j : ℕ) → i < j → place_at c i ≤ seen_before c j
  place_seen i zero h = absurd (no h)
    where
      no : i < 0 → ⊥
      no a = omega arith
  place_seen i (suc j) h =
      split i j
      (λ l. let a = place_seen i j l in let b = (seen_step j).0 in omega arith)
      (λ l. let z : i ≡ j = omega arith in rw z (seen_step j).1)

  -- all are at most m
  -- each record uses one more at most
  seen_few : (i : ℕ) → each (next_only c) i ≡ true → seen_before c i ≤ i
  unfolding seen_before each next_only
  seen_few zero e = omega arith
  seen_few (suc i) e =
      let a = seen_few i (and_l (each (next_only c) i) (leb (place_at c i) (seen_before c i + 1)) e) in
      let b = leb-true (place_at c i) (seen_before c i + 1) (and_r (each (next_only c) i) (leb (place_at c i) (seen_before c i + 1)) e) in
      by_test (λ (m : ℕ). m ≤ suc i) (ltb (seen_before c i) (place_at c i)) (place_at c i) (seen_before c i) (λ h. omega arith) (λ h. omega arith)

  pub use_few : (m : ℕ) → in_first_use c m ≡ true → m ≤ compact_records c
  unfolding in_first_use
  use_few m h =
      let a : seen_before c (compact_records c) ≤ compact_records c = seen_few (compact_records c) (and_l _ (eqb (seen_before c (compact_records c)) m) h) in
      let b : seen_before c (compact_records c) ≡ m = eqb-true _ _ (and_r (each (next_only c) (compact_records c)) _ h) in
      omega arith

  pub seen_most : (m i : ℕ) → ((j : ℕ) → j < i → place_at c j ≤ m) → seen_before c i ≤ m
  unfolding seen_before
  seen_most m zero h = omega arith
  seen_most m (suc i) h =
      by_test (λ (x : ℕ). x ≤ m) (ltb (seen_before c i) (place_at c i)) (place_at c i) (seen_before c i)
      (λ e. h i (omega arith)) (λ e. seen_most m i (λ j l. h j (omega arith)))

  -- ---- who uses a place first
  module _ (place : ℕ) where
    pub use_before : (j : ℕ) → place_at c j ≡ place → first_use c place ≤ j
    unfolding first_use
    use_before j e = first_least (λ i. eqb (place_at c i) place) (compact_records c) j (eq-eqb _ _ e)

    pub use_is : first_use c place < compact_records c → place_at c (first_use c place) ≡ place
    unfolding first_use
    use_is h = eqb-true _ _ (first_found (λ i. eqb (place_at c i) place) (compact_records c) h)

    pub use_within : first_use c place ≤ compact_records c
    unfolding first_use
    use_within = first_within (λ i. eqb (place_at c i) place) (compact_records c)

  -- a record before i that uses the letters k
  pub record UsedBy (i k : ℕ) : Type 0 where
    pub at : ℕ
    pub below : at < i
    pub is : place_at c at ≡ k + 1

  module _ (next : (i : ℕ) → i < compact_records c → next_only c i ≡ true) where
    pub used_by : (i : ℕ) → i ≤ compact_records c → (k : ℕ) → k < seen_before c i → UsedBy i k
    unfolding seen_before next_only
    used_by zero h k l = absurd (no l)
      where
        no : k < 0 → ⊥
        no a = omega arith
    used_by (suc i) h k l =
        split k (seen_before c i)
        (λ a. let r = used_by i (omega arith) k a in record { at = r.at; below = later i r.at r.below; is = r.is })
        (λ a. by_bool (ltb (seen_before c i) (place_at c i))
        (λ e. let l' : k < place_at c i = rw e at l in
        let n : place_at c i ≤ seen_before c i + 1 = leb-true _ _ (next i (omega arith)) in
        record { at = i; below = last i; is = squeeze (seen_before c i) (place_at c i) a l' n })
        (λ e. let l' : k < seen_before c i = rw e at l in absurd (both (seen_before c i) a l')))
      where
        later : (i j : ℕ) → j < i → j < suc i
        later i j h = omega arith

        last : (i : ℕ) → i < suc i
        last i = omega arith

        squeeze : (s p : ℕ) → s ≤ k → k < p → p ≤ s + 1 → p ≡ k + 1
        squeeze s p a b d = omega arith

        both : (s : ℕ) → s ≤ k → k < s → ⊥
        both s a b = omega arith

  -- ---- from the one to the other
  module _ (m : ℕ) (h : in_first_use c m ≡ true) where
    pub next_all : (i : ℕ) → i < compact_records c → next_only c i ≡ true
    unfolding in_first_use
    next_all = each_at (next_only c) (compact_records c) (and_l (each (next_only c) (compact_records c)) _ h)

    pub all_seen : seen_before c (compact_records c) ≡ m
    unfolding in_first_use
    all_seen = eqb-true _ _ (and_r (each (next_only c) (compact_records c)) (eqb (seen_before c (compact_records c)) m) h)

    pub place_within : (i : ℕ) → i < compact_records c → place_at c i ≤ m
    place_within i l = rw (← all_seen) (place_seen i (compact_records c) l)

    same : (n : ℕ) → n ≤ n
    same n = omega arith

    pub order_used : (k : ℕ) → k < m → unused c k ≡ false
    unfolding unused
    order_used k l =
        let r = used_by next_all (compact_records c) (same (compact_records c)) k (rw all_seen l) in
        ne_eqb _ _ (not_all (first_use c (k + 1)) r.at (use_before (k + 1) r.at r.is) r.below)
      where
        not_all : (f j : ℕ) → f ≤ j → j < compact_records c → f ≡ compact_records c → ⊥
        not_all f j a b e = omega arith

    leb_next : (i : ℕ) → i < compact_records c → place_at c i ≤ seen_before c i + 1
    unfolding next_only
    leb_next i l = leb-true _ _ (next_all i l)

    ne : (k : ℕ) → unused c k ≡ false → first_use c (k + 1) ≡ compact_records c → ⊥
    unfolding unused
    ne k e = eqb-false (first_use c (k + 1)) (compact_records c) e

    pub order_kept_lem : (k : ℕ) → k < m → early c k ≡ false
    unfolding early
    order_kept_lem k l =
        by_bool (ltb 0 k)
        (λ e. let k0 : 0 < k = ltb-true 0 k e in
        let f : first_use c (k + 1) < compact_records c = below (first_use c (k + 1)) (use_within (k + 1)) (ne k (order_used k l)) in
        let p : place_at c (first_use c (k + 1)) ≡ k + 1 = use_is (k + 1) f in
        let n : place_at c (first_use c (k + 1)) ≤ seen_before c (first_use c (k + 1)) + 1 = leb_next (first_use c (k + 1)) f in
        let s : k - 1 < seen_before c (first_use c (k + 1)) = omega (arith, p, n, k0) in
        let r = used_by next_all (first_use c (k + 1)) (weak f) (k - 1) s in
        let q : place_at c r.at ≡ k = back k k0 r.is in
        rw e (le-ltb (first_use c (k + 1)) (first_use c k) (chain (use_before k r.at q) r.below)))
        (λ e. rw e)
      where
        below : (f : ℕ) → f ≤ compact_records c → (f ≡ compact_records c → ⊥) → f < compact_records c
        below f a b = omega arith

        weak : {a b : ℕ} → a < b → a ≤ b
        weak h = omega arith

        back : (k : ℕ) {x : ℕ} → 0 < k → x ≡ k - 1 + 1 → x ≡ k
        back k a b = omega arith

        chain : {a b d : ℕ} → a ≤ b → b < d → a ≤ d
        chain a b = omega arith

  module _ (m : ℕ) (few : (i : ℕ) → i < compact_records c → place_at c i ≤ m) (used : (k : ℕ) → k < m → unused c k ≡ false)
      (kept : (k : ℕ) → k < m → early c k ≡ false) where
    there : (k : ℕ) → k < m → first_use c (k + 1) < compact_records c
    unfolding unused
    there k l = below (first_use c (k + 1)) (use_within (k + 1)) (eqb-false (first_use c (k + 1)) (compact_records c) (used k l))
      where
        below : (f : ℕ) → f ≤ compact_records c → (f ≡ compact_records c → ⊥) → f < compact_records c
        below f a b = omega arith

    in_turn_lem : (k : ℕ) → 0 < k → k < m → first_use c k ≤ first_use c (k + 1)
    unfolding early
    in_turn_lem k a l = let z : ltb (first_use c (k + 1)) (first_use c k) ≡ false = rw (lt-ltb 0 k a) at (kept k l) in ltb-false _ _ z

    next_one : (i : ℕ) → i < compact_records c → place_at c i ≤ seen_before c i + 1
    next_one i h =
        split (place_at c i) 2
        (λ a. small (place_at c i) (seen_before c i) a)
        (λ a. let k = place_at c i - 1 in
        let e : k + 1 ≡ place_at c i = omega arith in
        let u : first_use c k ≤ first_use c (k + 1) = in_turn_lem k (omega arith) (omega (arith, few i h)) in
        let v : first_use c (k + 1) ≤ i = use_before (k + 1) i (sym e) in
        let p : place_at c (first_use c k) ≡ k = use_is k (omega arith) in
        let w : first_use c k < i = other (first_use c k) i (omega arith) p e in
        let s = place_seen (first_use c k) i w in
        omega (arith, s, p, e))
      where
        small : (p s : ℕ) → p < 2 → p ≤ s + 1
        small p s a = omega arith

        other : (f i : ℕ) {k : ℕ} → f ≤ i → place_at c f ≡ k → k + 1 ≡ place_at c i → f < i
        other f i {k} a b d =
            split f i (λ x. x) (λ x. let z : f ≡ i = omega arith in absurd (no (ap (place_at c) z)))
          where
            no : place_at c f ≡ place_at c i → ⊥
            no e = omega arith

    pub used_in_order : in_first_use c m ≡ true
    unfolding in_first_use next_only
    used_in_order =
        and_yes (each_all _ (compact_records c) (λ i h. le-leb _ _ (next_one i h))) (eq-eqb _ _ whole)
      where
        most : seen_before c (compact_records c) ≤ m
        most = seen_most m (compact_records c) few

        least : m ≤ seen_before c (compact_records c)
        least =
            split 0 m
            (λ a. let k = m - 1 in
            let e : k + 1 ≡ m = omega arith in
            let f : first_use c (k + 1) < compact_records c = there k (omega arith) in
            let s = place_seen (first_use c (k + 1)) (compact_records c) f in
            let p = use_is (k + 1) f in
            omega (arith, s, p, e))
            (λ a. omega arith)

        whole : seen_before c (compact_records c) ≡ m
        whole = let a = most in let b = least in omega arith
