-- What a good table says of its records (01's definitions are in Records): each lies between its ends and has good fields; they stand in order,
-- so at most one holds a code point; and only scalar values from U+0250 on are held.
-- Assumes nothing.
use Prim.Native.Nat.{ℕ, zero, suc, ◌+◌, ◌-◌, ◌%◌, ◌≤◌, ◌<◌}
use mathlib.Core.Path.{◌≡◌, refl, sym, ap, ◌∙◌}
use mathlib.Core.List.{List}
use mathlib.Core.Bool.{true, not, ◌&&◌, ◌||◌}
use native.Mathlib.Omega.{arith}
use lib.ListN.{length}
use lib.Dec.{leb, ltb, eqb}
use borrow.Author.Tests.{ltb-true, leb-true, le-leb, eqb-true, ne_eqb, not-false}
use Rattle.base.proofs.Laws.First.{first_before, first_is, first_none}
use Rattle.base.specs.FlagRule.{flag_rule}
use Rattle.base.specs.Limits.{BUILTIN_END, LAST_POINT, SURROGATE_FIRST, SURROGATE_LAST, CLASS_RECORD, MOST_CLASSES, LAST_RANGE}
use Rattle.base.specs.Tests.{scalar}
use Rattle.base.proofs.Laws.Tests.{within_lo, within_hi, within_below, within_above, by_bool, split, and_l, and_r, and_yes}
use Rattle.class_records.specs.Records.{records, record_at, good_span, no_ascii, good_flags, none_or_scalar, good_fields, follows, good_at, first_bad, good_table, holds, holder}
use Rattle.class_records.specs.declared.Record.{Record}

-- a good span, condition by condition
pub record Span (r : Record) : Type 0 where
  pub start : BUILTIN_END ≤ r.first
  pub up : r.first ≤ r.last
  pub end : r.last ≤ LAST_POINT
  pub clear : (ltb r.last SURROGATE_FIRST || ltb SURROGATE_LAST r.first) ≡ true

pub span : (r : Record) → good_span r ≡ true → Span r
unfolding good_span
span r h =
    let three = and_l _ (ltb r.last SURROGATE_FIRST || ltb SURROGATE_LAST r.first) h in
    let two = and_l _ (leb r.last LAST_POINT) three in
    record {
      start = leb-true _ _ (and_l _ (leb r.first r.last) two);
      up = leb-true _ _ (and_r (leb BUILTIN_END r.first) _ two);
      end = leb-true _ _ (and_r (leb BUILTIN_END r.first && leb r.first r.last) _ three);
      clear = and_r (leb BUILTIN_END r.first && leb r.first r.last && leb r.last LAST_POINT) _ h;
    }

pub span_good : (r : Record) → Span r → good_span r ≡ true
unfolding good_span
span_good r s =
    and_yes (and_yes (and_yes (le-leb _ _ s.start) (le-leb _ _ s.up)) (le-leb _ _ s.end)) s.clear

module _ (t : List ℕ) where
  -- a good record, part by part
  pub good_span_lem : (i : ℕ) → good_at t i ≡ true → Span (record_at t i)
  unfolding good_at
  good_span_lem i h = span _ (and_l _ (good_fields (record_at t i)) (and_l _ (follows t i) h))

  pub good_fields_lem : (i : ℕ) → good_at t i ≡ true → good_fields (record_at t i) ≡ true
  unfolding good_at
  good_fields_lem i h = and_r (good_span (record_at t i)) _ (and_l _ (follows t i) h)

  pub good_follows : (i : ℕ) → good_at t i ≡ true → follows t i ≡ true
  unfolding good_at
  good_follows i h = and_r (good_span (record_at t i) && good_fields (record_at t i)) _ h

  pub good_at_lem : (i : ℕ) → Span (record_at t i) → good_fields (record_at t i) ≡ true → follows t i ≡ true → good_at t i ≡ true
  unfolding good_at
  good_at_lem i s f h = and_yes (and_yes (span_good _ s) f) h

  -- "ascending", of a record and the next
  pub follows_next : (i : ℕ) → follows t (suc i) ≡ ltb (record_at t i).last (record_at t (suc i)).first
  unfolding follows
  follows_next i = let e : suc i - 1 ≡ i = omega arith in rw (ne_eqb (suc i) 0 (λ z. omega arith), e)

  pub follows_first : follows t 0 ≡ true
  unfolding follows
  follows_first = refl

  -- no record is bad exactly where each is good
  pub each_good : first_bad t ≡ records t → (i : ℕ) → i < records t → good_at t i ≡ true
  unfolding first_bad
  each_good e i h = not-false _ (first_before (λ i. not (good_at t i)) (records t) i (rw e h))

  pub none_bad : ((i : ℕ) → i < records t → good_at t i ≡ true) → first_bad t ≡ records t
  unfolding first_bad
  none_bad g = first_none _ _ (λ i h. ap not (g i h))

module _ (t : List ℕ) (g : good_table t ≡ true) where
  pub table_none_bad : first_bad t ≡ records t
  unfolding good_table
  table_none_bad = eqb-true _ _ (and_r (eqb (length t % CLASS_RECORD) 0 && leb (records t) MOST_CLASSES) _ g)

  pub table_number : records t ≤ MOST_CLASSES
  unfolding good_table
  table_number =
      leb-true _ _ (and_r (eqb (length t % CLASS_RECORD) 0) _ (and_l _ (eqb (first_bad t) (records t)) g))

  good : (i : ℕ) → i < records t → good_at t i ≡ true
  good = each_good t table_none_bad

  next : (i : ℕ) → suc i < records t → (record_at t i).last < (record_at t (suc i)).first
  next i h = ltb-true _ _ (sym (follows_next t i) ∙ good_follows t (suc i) (good (suc i) h))

  -- all of a record's code points stand below those of any later record
  ascending : (k i : ℕ) → suc (i + k) < records t → (record_at t i).last < (record_at t (suc (i + k))).first
  ascending zero i h = let e : i + 0 ≡ i = omega arith in rw e (next i (omega arith))
  ascending (suc k) i h =
      let e : i + suc k ≡ suc (i + k) = omega arith in
      rw e
      (omega (arith, ascending k i (omega arith), (good_span_lem t (suc (i + k)) (good (suc (i + k)) (omega arith))).up, next (suc (i + k)) (omega arith)))

  pub ordered : (i j : ℕ) → i < j → j < records t → (record_at t i).last < (record_at t j).first
  ordered i j h l =
      let e : suc (i + (j - suc i)) ≡ j = omega arith in
      rw e at (ascending (j - suc i) i (omega arith))

  module _ (p i : ℕ) (l : i < records t) (h : holds t p i ≡ true) where
    held_from : (record_at t i).first ≤ p
    unfolding holds
    held_from = within_lo _ (record_at t i).last p h

    held_to : p ≤ (record_at t i).last
    unfolding holds
    held_to = within_hi (record_at t i).first _ p h

  -- at most one record holds a code point
  pub one_holder : (p i j : ℕ) → i < records t → j < records t → holds t p i ≡ true → holds t p j ≡ true → i ≡ j
  one_holder p i j hi hj a b =
      split i j (λ l. absurd (clash i j hi hj a b l)) (λ l. split j i (λ m. absurd (clash j i hj hi b a m)) (λ m. omega arith))
    where
      clash : (i j : ℕ) → i < records t → j < records t → holds t p i ≡ true → holds t p j ≡ true → i < j → ⊥
      clash i j hi hj a b l = omega (arith, ordered i j l hj, held_to p i hi a, held_from p j hj b)

  -- so the record that holds it is the one that the search answers
  pub holder_is : (p i : ℕ) → i < records t → holds t p i ≡ true → holder t p ≡ i
  unfolding holder
  holder_is p i l h =
      first_is (holds t p) (records t) i l h
      (λ j m. by_bool (holds t p j) (λ a. absurd (other j m a)) (λ e. e))
    where
      other : (j : ℕ) → j < i → holds t p j ≡ true → ⊥
      other j m a = omega (arith, one_holder p j i (omega arith) l a h)

  -- what is held is a scalar value, and none of the built-in table's
  pub held_past : (p i : ℕ) → i < records t → holds t p i ≡ true → BUILTIN_END ≤ p
  held_past p i l h = omega (arith, (good_span_lem t i (good i l)).start, held_from p i l h)

  pub held_scalar : (p i : ℕ) → i < records t → holds t p i ≡ true → scalar p ≡ true
  unfolding scalar
  held_scalar p i l h =
      and_yes (le-leb p LAST_POINT (omega (arith, (good_span_lem t i (good i l)).end, held_to p i l h)))
      (by_bool (ltb (record_at t i).last SURROGATE_FIRST)
      (λ e. let low : (record_at t i).last < SURROGATE_FIRST = ltb-true _ _ e in
      ap not (within_below SURROGATE_FIRST SURROGATE_LAST p (omega (arith, held_to p i l h))))
      (λ e. let right : ltb SURROGATE_LAST (record_at t i).first ≡ true = rw e at (good_span_lem t i (good i l)).clear in
      let high : SURROGATE_LAST < (record_at t i).first = ltb-true _ _ right in
      ap not (within_above SURROGATE_FIRST SURROGATE_LAST p
      (omega (arith, held_from p i l h))
      (omega (arith, held_from p i l h)))))

-- good fields, condition by condition
pub record Fields (r : Record) : Type 0 where
  pub range : r.range ≤ LAST_RANGE
  pub pad : r.zero ≡ 0
  pub base : none_or_scalar r.base ≡ true
  pub lower : none_or_scalar r.lower ≡ true
  pub flags : flag_rule r.flags ≡ true
  pub ascii : no_ascii r.flags ≡ true

pub fields : (r : Record) → good_fields r ≡ true → Fields r
unfolding good_fields good_flags
fields r h =
    let four = and_l _ (good_flags r.flags) h in
    let three = and_l _ (none_or_scalar r.lower) four in
    let two = and_l _ (none_or_scalar r.base) three in
    let last = and_r (leb r.range LAST_RANGE && eqb r.zero 0 && none_or_scalar r.base && none_or_scalar r.lower) _ h in
    record {
      range = leb-true _ _ (and_l _ (eqb r.zero 0) two);
      pad = eqb-true _ _ (and_r (leb r.range LAST_RANGE) _ two);
      base = and_r (leb r.range LAST_RANGE && eqb r.zero 0) _ three;
      lower = and_r (leb r.range LAST_RANGE && eqb r.zero 0 && none_or_scalar r.base) _ four;
      flags = and_l _ (no_ascii r.flags) last;
      ascii = and_r (flag_rule r.flags) _ last;
    }

-- the fields of a good table's records
pub table_fields : (t : List ℕ) → good_table t ≡ true → (i : ℕ) → i < records t → Fields (record_at t i)
table_fields t g i l = fields _ (good_fields_lem t i (each_good t (table_none_bad t g) i l))
