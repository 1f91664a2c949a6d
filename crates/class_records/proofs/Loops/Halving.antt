-- The search by halving. In a good table records are "ascending, no overlap" (01), so `ending`, the first record that ends at p or past it, is
-- the only one that may hold p: `ending_holds`, `_gap` and `_past` say what the search answers. `Halving` is the search under way.
-- Assumes nothing.
use Prim.Native.Nat.{ℕ, ◌+◌, ◌-◌, ◌≤◌, ◌<◌}
use mathlib.Core.Path.{◌≡◌, sym}
use mathlib.Core.List.{List}
use mathlib.Core.Bool.{true, false}
use native.Mathlib.Omega.{arith}
use borrow.Author.Tests.{leb-true, le-leb, lt-leb, leb-false}
use Rattle.base.proofs.Laws.First.{first_is, first_none, first_before, first_found}
use Rattle.base.proofs.Laws.Tests.{split, within_yes, within_below, within_above}
use Rattle.class_records.specs.Records.{records, record_at, good_table, holds, holder}
use Rattle.class_records.proofs.Laws.Records.{good_span_lem, each_good, table_none_bad, ordered, holder_is}
use Rattle.class_records.specs.Inner.Halving.{ends_from, ending}

module _ (t : List ℕ) (p : ℕ) where
  pub record Halving (low high : ℕ) : Type 0 where
    pub order : low ≤ high
    pub within : high ≤ records t
    pub below : (i : ℕ) → i < low → (record_at t i).last < p
    pub above : (i : ℕ) → high ≤ i → i < records t → p ≤ (record_at t i).last

  pub halving_start : Halving 0 (records t)
  halving_start =
      record {
        order = omega arith;
        within = omega arith;
        below = λ i l. absurd (omega arith);
        above = λ i l h. absurd (omega arith);
      }

module _ (t : List ℕ) (g : good_table t ≡ true) (p : ℕ) where
  up : (i : ℕ) → i < records t → (record_at t i).first ≤ (record_at t i).last
  up i h = (good_span_lem t i (each_good t (table_none_bad t g) i h)).up

  -- a record that ends before p, and one that starts past it, do not hold it
  ended : (i : ℕ) → i < records t → (record_at t i).last < p → holds t p i ≡ false
  unfolding holds
  ended i h l = within_above (record_at t i).first (record_at t i).last p (omega (arith, up i h)) l

  ahead : (i : ℕ) → p < (record_at t i).first → holds t p i ≡ false
  unfolding holds
  ahead i l = within_below (record_at t i).first (record_at t i).last p l

  -- ---- the answer
  before : (i : ℕ) → i < ending t p → (record_at t i).last < p
  unfolding ending
  before i h = leb-false p (record_at t i).last (first_before (ends_from t p) (records t) i h)

  pub ending_past : records t ≤ ending t p → holder t p ≡ records t
  unfolding holder
  ending_past h = first_none (holds t p) (records t) (λ i l. ended i l (before i (omega arith)))

  module _ (h : ending t p < records t) where
    there : p ≤ (record_at t (ending t p)).last
    unfolding ending
    there = leb-true p (record_at t (ending t p)).last (first_found (ends_from t p) (records t) h)

    -- it holds p where it starts at p or before it
    pub ending_holds : (record_at t (ending t p)).first ≤ p → holder t p ≡ ending t p
    unfolding holds
    ending_holds l = holder_is t g p (ending t p) h (within_yes _ _ p l there)

    pub ending_gap : p < (record_at t (ending t p)).first → holder t p ≡ records t
    unfolding holder
    ending_gap s = first_none (holds t p) (records t) each
      where
        each : (i : ℕ) → i < records t → holds t p i ≡ false
        each i l =
            split i (ending t p)
            (λ a. ended i l (before i a))
            (λ a. split (ending t p) i
            (λ b. ahead i (omega (arith, there, ordered t g (ending t p) i b l)))
            (λ b. let z : i ≡ ending t p = omega arith in rw z (ahead (ending t p) s)))

  module _ {low high : ℕ} (s : Halving t p low high) where
    module _ {m : ℕ} (a : low ≤ m) (z : m < high) where
      pub halving_inside : m < records t
      halving_inside = omega (arith, s.within)

      pub halving_right : (record_at t m).last < p → Halving t p (m + 1) high
      halving_right h =
          record {
            order = omega arith;
            within = s.within;
            below = λ i l. split i m
                (λ k. omega (arith, ordered t g i m k halving_inside, up m halving_inside))
                (λ k. let e : i ≡ m = omega arith in rw e h);
            above = s.above;
          }

      pub halving_left : p ≤ (record_at t m).last → Halving t p low m
      halving_left h =
          record {
            order = a;
            within = omega (arith, s.within);
            below = s.below;
            above = λ i l k. split m i
                (λ b. omega (arith, ordered t g m i b k, up i k))
                (λ b. let e : i ≡ m = omega arith in rw e h);
          }

    pub halving_end : high ≤ low → low ≡ ending t p
    unfolding ending
    halving_end h =
        split low (records t)
        (λ l. sym (first_is (ends_from t p) (records t) low l (le-leb _ _ (s.above low h l)) (λ j k. lt-leb _ _ (s.below j k))))
        (λ l. let e : low ≡ records t = omega (arith, s.order, s.within) in
        rw e (sym (first_none (ends_from t p) (records t) (λ j k. lt-leb _ _ (s.below j (omega arith))))))

  -- of `size` records from low on the first half ends with the one at m; where it is not passed, the search goes on among as many as are left where it is
  module _ {low size : ℕ} (s : Halving t p low (low + size)) (half m : ℕ) (e : m + 1 ≡ low + half) (some : 0 < half) (twice : half + half ≤ size) where
    pub sized_right : (record_at t m).last < p → Halving t p (low + half) (low + half + (size - half))
    sized_right h =
        let z : low + half + (size - half) ≡ low + size = omega (arith, twice) in
        rw (z, ← e) (halving_right s (omega (arith, e, some)) (omega (arith, e, some, twice)) h)

    pub sized_left : p ≤ (record_at t m).last → Halving t p low (low + (size - half))
    sized_left h =
        let l = halving_left s (omega (arith, e, some)) (omega (arith, e, some, twice)) h in
        record {
          order = omega arith;
          within = omega (arith, s.within, twice);
          below = s.below;
          above = λ i x k. l.above i (omega (arith, x, e, twice)) k;
        }

-- all records
pub sized_start : (t : List ℕ) (p : ℕ) → Halving t p 0 (0 + records t)
sized_start t p = let z : 0 + records t ≡ records t = omega arith in rw z (halving_start t p)
