-- A good table whose records hold as many code points as there are scalar values past the built-in table holds each of them (`whole_classed`): the
-- records ascend and have no surrogate inside, so a scalar value that none of them held would be missing in the sum.
-- Assumes nothing.
use Prim.Native.Nat.{ℕ, zero, suc, ◌+◌, ◌-◌, ◌≤◌, ◌<◌}
use mathlib.Core.Path.{◌≡◌, sym, ap, ◌∙◌}
use mathlib.Core.List.{List}
use mathlib.Core.Bool.{true, false, not}
use native.Mathlib.Omega.{arith}
use lib.Dec.{leb, ltb}
use borrow.Author.Tests.{ltb-true, leb-true}
use Rattle.base.specs.Limits.{BUILTIN_END, LAST_POINT, SURROGATE_FIRST, SURROGATE_LAST}
use Rattle.base.specs.Tests.{scalar}
use Rattle.base.proofs.Laws.Tests.{by_bool, split, and_l, and_r, or_l, within_yes}
use Rattle.class_records.specs.Records.{records, record_at, good_table, good_at}
use Rattle.class_records.proofs.Laws.Records.{good_span_lem, good_follows, follows_next, each_good, table_none_bad}
use Rattle.md_meaning.specs.Text.{char_at}
use Rattle.md_meaning.specs.Scan.{unclassed}
use Rattle.md_rest.specs.Inner.Whole.{PAST_BUILTIN, sizes_before}
use Rattle.md_rest.proofs.Laws.Rest.{builtin_classed, held_classed}

no_truth : false ≡ true → ⊥
no_truth e = let z : ◌≡◌ {A = ℕ} 0 1 = cc in omega arith

-- how many surrogates there are
abbrev SURROGATES : ℕ
SURROGATES = SURROGATE_LAST + 1 - SURROGATE_FIRST

-- past the first k records: past the last code point of the record before k, and past the built-in table where there is none
unfoldable pub past_records : List ℕ → ℕ → ℕ
past_records t zero = BUILTIN_END
past_records t (suc k) = (record_at t k).last + 1

-- a scalar value is no surrogate
module _ (p : ℕ) (v : scalar p ≡ true) where
  value_most : p ≤ LAST_POINT
  unfolding scalar
  value_most = leb-true p LAST_POINT (and_l (leb p LAST_POINT) _ v)

  value_clear : SURROGATE_FIRST ≤ p → SURROGATE_LAST < p
  unfolding scalar
  value_clear h =
      split SURROGATE_LAST p
      (λ l. l)
      (λ l. absurd (no_truth (ap not (sym (within_yes SURROGATE_FIRST SURROGATE_LAST p h l)) ∙ and_r (leb p LAST_POINT) _ v)))

module _ (t : List ℕ) (g : good_table t ≡ true) where
  -- what is known of a good record, in numbers
  pub record Lies (k : ℕ) : Type 0 where
    pub after : past_records t k ≤ (record_at t k).first
    pub up : (record_at t k).first ≤ (record_at t k).last
    pub most : (record_at t k).last ≤ LAST_POINT
    pub clear : SURROGATE_FIRST ≤ (record_at t k).last → SURROGATE_LAST < (record_at t k).first

  good : (k : ℕ) → k < records t → good_at t k ≡ true
  good = each_good t (table_none_bad t g)

  follow : (k : ℕ) → k < records t → past_records t k ≤ (record_at t k).first
  unfolding past_records
  follow zero h = (good_span_lem t 0 (good 0 h)).start
  follow (suc k) h =
      let l : (record_at t k).last < (record_at t (suc k)).first = ltb-true _ _ (sym (follows_next t k) ∙ good_follows t (suc k) (good (suc k) h)) in
      omega (arith, l)

  pub lies : (k : ℕ) → k < records t → Lies k
  lies k h =
      let s = good_span_lem t k (good k h) in
      record {
        after = follow k h;
        up = s.up;
        most = s.end;
        clear = λ l. by_bool (ltb SURROGATE_LAST (record_at t k).first)
            (λ e. ltb-true _ _ e)
            (λ e.
            let below : (record_at t k).last < SURROGATE_FIRST =
            ltb-true _ _ (or_l (ltb (record_at t k).last SURROGATE_FIRST) (ltb SURROGATE_LAST (record_at t k).first) s.clear e) in
            absurd (omega (arith, l, below)));
      }

  -- the first k records hold no more code points than there are before their end
  pub sizes_fit : (k : ℕ) → k ≤ records t → sizes_before t k + BUILTIN_END ≤ past_records t k
  unfolding sizes_before past_records
  sizes_fit zero h = omega arith
  sizes_fit (suc k) h =
      let l = lies k (omega arith) in
      omega (arith, sizes_fit k (omega arith), l.after, l.up)

  pub past_fit : (k : ℕ) → k ≤ records t → past_records t k ≤ LAST_POINT + 1
  unfolding past_records
  past_fit zero h = omega arith
  past_fit (suc k) h = omega (arith, (lies k (omega arith)).most)

  -- a scalar value past the built-in table that no record holds
  module _ (p : ℕ) (from : BUILTIN_END ≤ p) (v : scalar p ≡ true)
      (none : (k : ℕ) → k < records t → (record_at t k).first ≤ p → p ≤ (record_at t k).last → ⊥) where
    -- the sum of the first k records falls short of the scalar values before their end, once p is passed
    record Short (k : ℕ) : Type 0 where
      clear : SURROGATE_FIRST < past_records t k → SURROGATE_LAST < past_records t k
      low : past_records t k ≤ SURROGATE_FIRST → p < past_records t k → sizes_before t k + BUILTIN_END < past_records t k
      high : SURROGATE_LAST < past_records t k → sizes_before t k + BUILTIN_END + SURROGATES ≤ past_records t k
      less : SURROGATE_LAST < past_records t k → p < past_records t k → sizes_before t k + BUILTIN_END + SURROGATES < past_records t k

    short_start : Short 0
    unfolding sizes_before past_records
    short_start =
        record {
          clear = λ a. absurd (omega arith);
          low = λ a b. absurd (omega (arith, from, b));
          high = λ a. absurd (omega arith);
          less = λ a b. absurd (omega arith);
        }

    short : (k : ℕ) → k ≤ records t → Short k
    unfolding sizes_before past_records
    short zero h = short_start
    short (suc k) h =
        let l = lies k (omega arith) in
        let s = short k (omega arith) in
        let fit = sizes_fit k (omega arith) in
        let before : p < (record_at t k).last + 1 → p < (record_at t k).first =
        λ b. split p (record_at t k).first (λ m. m) (λ m. absurd (none k (omega arith) m (omega arith))) in
        record {
          clear = λ a. omega (arith, l.clear (omega arith), l.up);
          low = λ a b. split p (past_records t k)
              (λ m. omega (arith, s.low (omega (arith, a, l.after, l.up)) m, l.after, l.up))
              (λ m. omega (arith, m, before b, fit, l.up));
          high = λ a.
              split SURROGATE_FIRST (past_records t k)
              (λ m. omega (arith, s.high (s.clear m), l.after, l.up))
              (λ m. omega (arith, fit, m, l.clear (omega (arith, a)), l.up));
          less = λ a b.
              let f = l.clear (omega (arith, a)) in
              split SURROGATE_FIRST (past_records t k)
              (λ m. split p (past_records t k)
              (λ q. omega (arith, s.less (s.clear m) q, l.after, l.up))
              (λ q. omega (arith, s.high (s.clear m), q, before b, l.up)))
              (λ m. split p (past_records t k)
              (λ q. omega (arith, s.low m q, m, f, l.up))
              (λ q. split p SURROGATE_FIRST
              (λ r. omega (arith, fit, q, r, f, l.up))
              (λ r. omega (arith, fit, m, value_clear p v r, before b, l.up))));
        }

    not_whole : sizes_before t (records t) ≡ PAST_BUILTIN → ⊥
    not_whole e =
        let n : records t ≤ records t = omega arith in
        let s = short (records t) n in
        let fit = sizes_fit (records t) n in
        let top = past_fit (records t) n in
        let most = value_most p v in
        let past : SURROGATE_LAST < past_records t (records t) = omega (arith, fit, e) in
        let all = s.high past in
        omega (arith, s.less past (omega (arith, all, most, e)), top, e)

  -- so none is left out, and a scalar value has a class
  module _ (text : List ℕ) (e : sizes_before t (records t) ≡ PAST_BUILTIN) where
    pub whole_classed : (j : ℕ) → scalar (char_at text j) ≡ true → unclassed t text j ≡ false
    whole_classed j v =
        split (char_at text j) BUILTIN_END
        (λ b. builtin_classed t text j b)
        (λ b. by_bool (unclassed t text j)
        (λ u. absurd (not_whole (char_at text j) b v (λ k h a z. no_truth (sym (held_classed t text g k h j a z) ∙ u)) e))
        (λ u. u))
