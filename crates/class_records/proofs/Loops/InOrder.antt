-- What the check asks of the records one after the other: a record's span, once it is known where the one before it ends; and that asking this
-- of each is the same as asking goodness of each (01's definition, Records). So the limits of 01 need a test at the two ends only.
-- Assumes nothing.
use Prim.Native.Nat.{ℕ, zero, suc, ◌+◌, ◌-◌, ◌≤◌, ◌<◌}
use mathlib.Core.Path.{◌≡◌, refl, sym, ap, ◌∙◌}
use mathlib.Core.List.{List}
use mathlib.Core.Bool.{Bool, true, false, not, ◌&&◌, ◌||◌}
use native.Mathlib.Omega.{arith}
use native.Mathlib.Numerals.{add-one}
use lib.Dec.{leb, ltb, eqb}
use native.Mathlib.Nat.{le_refl}
use borrow.Author.Tests.{ltb-true, leb-true, lt-ltb, le-leb, eqb-true, eq-eqb, not-false}
use Rattle.base.specs.Inner.First.{first_from}
use Rattle.base.proofs.Laws.First.{first_start, first_hit, first_miss, first_end}
use Rattle.base.specs.Limits.{BUILTIN_END, LAST_POINT, SURROGATE_FIRST, SURROGATE_LAST}
use Rattle.base.proofs.Laws.Tests.{split, and_l, and_r, and_yes}
use Rattle.class_records.specs.Records.{records, record_at, good_fields, follows, good_at, first_bad}
use Rattle.class_records.proofs.Laws.Records.{Span, good_span_lem, good_fields_lem, good_follows, good_at_lem, follows_next, follows_first, each_good, none_bad}
use Rattle.class_records.specs.declared.Record.{Record}
use Rattle.class_records.specs.Inner.InOrder.{span_after}

-- where what stands before the record i ends: the record before it, and before the first the built-in table
unfoldable pub end_before : List ℕ → ℕ → ℕ
end_before t zero = BUILTIN_END - 1
end_before t (suc i) = (record_at t i).last

unfoldable pub in_order : List ℕ → ℕ → Bool
in_order t i = span_after (end_before t i) (record_at t i) && good_fields (record_at t i)

-- the parts of spanAfter
pub record After (end : ℕ) (r : Record) : Type 0 where
  pub past : end < r.first
  pub up : r.first ≤ r.last
  pub clear : (ltb r.last SURROGATE_FIRST || ltb SURROGATE_LAST r.first) ≡ true

after : (end : ℕ) (r : Record) → span_after end r ≡ true → After end r
unfolding span_after
after end r h =
    let two = and_l _ (ltb r.last SURROGATE_FIRST || ltb SURROGATE_LAST r.first) h in
    record {
      past = ltb-true _ _ (and_l _ (leb r.first r.last) two);
      up = leb-true _ _ (and_r (ltb end r.first) _ two);
      clear = and_r (ltb end r.first && leb r.first r.last) _ h;
    }

after_yes : (end : ℕ) (r : Record) → After end r → span_after end r ≡ true
unfolding span_after
after_yes end r a = and_yes (and_yes (lt-ltb _ _ a.past) (le-leb _ _ a.up)) a.clear

-- two tests that imply each other are the same
iff : (a b : Bool) → (a ≡ true → b ≡ true) → (b ≡ true → a ≡ true) → a ≡ b
iff true b f g = sym (f refl)
iff false true f g = g refl
iff false false f g = refl

module _ (t : List ℕ) where
  -- a good record starts past what stands before it, and what starts past it follows
  good_past : (i : ℕ) → good_at t i ≡ true → end_before t i < (record_at t i).first
  unfolding end_before
  good_past zero h = omega (arith, (good_span_lem t 0 h).start)
  good_past (suc i) h = ltb-true _ _ (sym (follows_next t i) ∙ good_follows t (suc i) h)

  past_follows : (i : ℕ) → end_before t i < (record_at t i).first → follows t i ≡ true
  unfolding end_before
  past_follows zero h = follows_first t
  past_follows (suc i) h = follows_next t i ∙ lt-ltb _ _ h

  good_after : (i : ℕ) → good_at t i ≡ true → After (end_before t i) (record_at t i)
  good_after i h =
      record { past = good_past i h; up = (good_span_lem t i h).up; clear = (good_span_lem t i h).clear }

  after_good : (i : ℕ) → BUILTIN_END ≤ end_before t i + 1 → After (end_before t i) (record_at t i) → (record_at t i).last ≤ LAST_POINT
      → good_fields (record_at t i) ≡ true → good_at t i ≡ true
  after_good i l a h f =
      good_at_lem t i
      (record { start = omega (arith, a.past); up = a.up; end = h; clear = a.clear })
      f
      (past_follows i a.past)

  -- the walk's test of the record i is its goodness, since what stands before it ends at U+024F or past it
  walk_test : (i : ℕ) → BUILTIN_END ≤ end_before t i + 1
      → (span_after (end_before t i) (record_at t i) && leb (record_at t i).last LAST_POINT && good_fields (record_at t i)) ≡ good_at t i
  walk_test i l =
      iff _ _
      (λ h.
      let two = and_l _ (good_fields (record_at t i)) h in
      after_good i l
      (after _ _ (and_l _ (leb (record_at t i).last LAST_POINT) two))
      (leb-true _ _ (and_r (span_after (end_before t i) (record_at t i)) _ two))
      (and_r (span_after (end_before t i) (record_at t i) && leb (record_at t i).last LAST_POINT) _ h))
      (λ h. and_yes (and_yes (after_yes _ _ (good_after i h)) (le-leb _ _ (good_span_lem t i h).end)) (good_fields_lem t i h))

next_end : (t : List ℕ) (i : ℕ) → (record_at t i).last ≡ end_before t (i + 1)
unfolding end_before
next_end t i = rw (add-one i)

-- the walk: the records before i are good, `end` is where they end
pub record Walked (t : List ℕ) (i end : ℕ) : Type 0 where
  pub within : i ≤ records t
  pub so_far : first_from (λ j. not (good_at t j)) (records t) i ≡ first_bad t
  pub at : end ≡ end_before t i
  pub past : BUILTIN_END ≤ end + 1

-- what the walk asks of a record
abbrev pub walked : List ℕ → ℕ → ℕ → Bool
walked t end i = span_after end (record_at t i) && leb (record_at t i).last LAST_POINT && good_fields (record_at t i)

module _ (t : List ℕ) where
  pub walked_start : Walked t 0 (BUILTIN_END - 1)
  unfolding first_bad end_before
  walked_start = record { within = omega arith; so_far = first_start _ _; at = refl; past = omega arith }

  module _ (i end : ℕ) (w : Walked t i end) where
    is_good : walked t end i ≡ good_at t i
    is_good = rw w.at (walk_test t i (rw w.at at w.past))

    pub walked_bad : i < records t → not (walked t end i) ≡ true → i ≡ first_bad t
    walked_bad h b = sym (first_hit _ _ i h (ap not (sym is_good) ∙ b)) ∙ w.so_far

    pub walked_more : i < records t → not (walked t end i) ≡ false → Walked t (i + 1) (record_at t i).last
    walked_more h g =
        let good : Span (record_at t i) = good_span_lem t i (sym is_good ∙ not-false _ g) in
        record {
          within = omega arith;
          so_far = sym (first_miss _ _ i h (ap not (sym is_good) ∙ g)) ∙ w.so_far;
          at = next_end t i;
          past = omega (arith, good.start, good.up);
        }

    pub walked_end : records t ≤ i → records t ≡ first_bad t
    walked_end h = let e : records t ≡ i = omega (arith, w.within) in rw e (sym (first_end _ _ i (omega (arith, w.within))) ∙ w.so_far)

-- the reduction: `good` says whether the records before i are in order, and `end` is where they end
pub record Reduced (t : List ℕ) (i end : ℕ) (good : Bool) : Type 0 where
  pub within : i ≤ records t
  pub at : end ≡ end_before t i
  pub all : good ≡ true → (j : ℕ) → j < i → in_order t j ≡ true
  pub none : ((j : ℕ) → j < i → in_order t j ≡ true) → good ≡ true

module _ (t : List ℕ) where
  pub reduced_start : Reduced t 0 (BUILTIN_END - 1) true
  unfolding end_before
  reduced_start = record { within = omega arith; at = refl; all = λ e j h. absurd (no j h); none = λ h. refl }
    where
      no : (j : ℕ) → j < 0 → ⊥
      no j h = omega arith

  pub reduced_more : (i end : ℕ) (good : Bool) → Reduced t i end good → i < records t
      → Reduced t (i + 1) (record_at t i).last (good && (span_after end (record_at t i) && good_fields (record_at t i)))
  unfolding in_order
  reduced_more i end good s h =
      record {
        within = omega arith;
        at = next_end t i;
        all = λ e j k. split j i
            (λ l. s.all (and_l good _ e) j l)
            (λ l. let z : i ≡ j = omega arith in rw (← z) (rw s.at at (and_r good _ e)));
        none = λ k. and_yes (s.none (λ j l. k j (omega arith))) (rw s.at (k i (omega arith)));
      }

  -- in order, the records end later and later
  rising : (i k : ℕ) → ((j : ℕ) → j < i + k → in_order t j ≡ true) → end_before t i ≤ end_before t (i + k)
  unfolding in_order
  rising i zero h = let e : i + 0 ≡ i = omega arith in rw e (le_refl _)
  rising i (suc k) h =
      let a = after _ _ (and_l _ (good_fields (record_at t (i + k))) (h (i + k) (omega arith))) in
      let e : i + suc k ≡ i + k + 1 = omega arith in
      rw (e, ← next_end t (i + k)) (omega (arith, rising i k (λ j l. h j (omega arith)), a.past, a.up))

  all_good : ((j : ℕ) → j < records t → in_order t j ≡ true) → end_before t (records t) ≤ LAST_POINT
      → (i : ℕ) → i < records t → good_at t i ≡ true
  unfolding in_order end_before
  all_good h l i k =
      let z : 0 + i ≡ i = omega arith in
      let low : end_before t 0 ≤ end_before t i = rw z at (rising 0 i (λ j m. h j (omega arith))) in
      let high = rising (i + 1) (records t - (i + 1)) (λ j m. h j (omega arith)) in
      let e : i + 1 + (records t - (i + 1)) ≡ records t = omega arith in
      let high' : end_before t (i + 1) ≤ end_before t (records t) = rw e at high in
      let high'' : (record_at t i).last ≤ end_before t (records t) = rw (← next_end t i) at high' in
      after_good t i (omega (arith, low)) (after _ _ (and_l _ (good_fields (record_at t i)) (h i k))) (omega (arith, high'', l))
      (and_r (span_after (end_before t i) (record_at t i)) _ (h i k))

  good_in_order : (i : ℕ) → good_at t i ≡ true → in_order t i ≡ true
  unfolding in_order
  good_in_order i h = and_yes (after_yes _ _ (good_after t i h)) (good_fields_lem t i h)

  good_end : (n : ℕ) → ((i : ℕ) → i < n → good_at t i ≡ true) → end_before t n ≤ LAST_POINT
  unfolding end_before
  good_end zero g = omega arith
  good_end (suc n) g = (good_span_lem t n (g n (omega arith))).end

  pub reduced_end : (i end : ℕ) (good : Bool) → Reduced t i end good → records t ≤ i
      → (good && leb end LAST_POINT) ≡ eqb (first_bad t) (records t)
  reduced_end i end good s h =
      let e : i ≡ records t = omega (arith, s.within) in
      let last : end ≡ end_before t (records t) = s.at ∙ ap (end_before t) e in
      iff _ _
      (λ g. eq-eqb _ _ (none_bad t (all_good
      (λ j k. s.all (and_l good _ g) j (rw e k))
      (rw last at (leb-true end LAST_POINT (and_r good _ g))))))
      (λ b. let each = each_good t (eqb-true _ _ b) in
      and_yes (s.none (λ j k. good_in_order j (each j (rw e at k))))
      (le-leb end LAST_POINT (rw last (good_end (records t) each))))
