-- The sum of the records' sizes, the characters that are scalar values, and the blocks of the built-in table: at the start, one step on and at the end.
-- Assumes nothing.
use Prim.Native.Nat.{ℕ, ◌+◌, ◌-◌, ◌≤◌, ◌<◌}
use mathlib.Core.Path.{◌≡◌, refl, sym, ◌∙◌}
use mathlib.Core.List.{List}
use mathlib.Core.Bool.{Bool, true, false, ◌&&◌, ◌||◌}
use native.Mathlib.Omega.{arith}
use native.Mathlib.Numerals.{add-one}
use lib.Dec.{leb, ltb}
use lib.ListN.{length, get_or}
use borrow.Author.Tests.{ltb-true, leb-true, le-leb}
use Rattle.base.specs.Limits.{LAST_POINT, SURROGATE_FIRST, SURROGATE_LAST, NEWLINE}
use Rattle.base.specs.Inner.First.{first_from}
use Rattle.base.specs.Tests.{scalar}
use Rattle.base.proofs.Laws.Tests.{by_bool, split, and_l, and_r, and_yes, within_below, within_above}
use Rattle.class_records.specs.Records.{records, record_at, good_table}
use Rattle.md_meaning.specs.Text.{char_at, total}
use Rattle.md_meaning.specs.Scan.{unclassed}
use Rattle.md_rest.specs.Inner.Rest.{Builtin}
use Rattle.md_rest.specs.Inner.Whole.{PAST_BUILTIN, sizes_before, Valued, Classed, Passed}
use Rattle.md_meaning.proofs.Laws.Scan.{get_d_any}
use Rattle.md_rest.proofs.Laws.Rest.{first_passed, builtin_classed}
use Rattle.md_rest.proofs.Laws.Whole.{sizes_fit, past_fit, whole_classed}
use Rattle.md_rest.proofs.Loops.Rest.{rest_ended}

-- ---- the sum of the sizes
pub sizes_start : (t : List ℕ) → 0 ≡ sizes_before t 0
unfolding sizes_before
sizes_start t = refl

pub sizes_more : (t : List ℕ) (i : ℕ) → sizes_before t i + ((record_at t i).last + 1 - (record_at t i).first) ≡ sizes_before t (i + 1)
unfolding sizes_before
sizes_more t i = rw (add-one i)

-- no sum is past the last code point
pub sizes_small : (t : List ℕ) → good_table t ≡ true → (i : ℕ) → i ≤ records t → sizes_before t i ≤ LAST_POINT
sizes_small t g i h = omega (arith, sizes_fit t g i h, past_fit t g i h)

-- ---- scalar values
-- a scalar value as the code tests it
abbrev pub valued : ℕ → Bool
valued p = ltb p SURROGATE_FIRST || (ltb SURROGATE_LAST p && leb p LAST_POINT)

value_low : (p : ℕ) → p < SURROGATE_FIRST → scalar p ≡ true
unfolding scalar
value_low p h = and_yes (le-leb p LAST_POINT (omega arith)) (rw (within_below SURROGATE_FIRST SURROGATE_LAST p h))

value_high : (p : ℕ) → SURROGATE_LAST < p → p ≤ LAST_POINT → scalar p ≡ true
unfolding scalar
value_high p h l = and_yes (le-leb p LAST_POINT l) (rw (within_above SURROGATE_FIRST SURROGATE_LAST p (omega arith) h))

or_r : (a b : Bool) → a || b ≡ true → a ≡ false → b ≡ true
or_r true b h e = cc
or_r false b h e = h

value_is : (p : ℕ) → valued p ≡ true → scalar p ≡ true
value_is p e =
    by_bool (ltb p SURROGATE_FIRST)
    (λ a. value_low p (ltb-true _ _ a))
    (λ a. let r = or_r (ltb p SURROGATE_FIRST) _ e a in
    value_high p (ltb-true _ _ (and_l _ (leb p LAST_POINT) r)) (leb-true _ _ (and_r (ltb SURROGATE_LAST p) _ r)))

module _ (text : List ℕ) (from : ℕ) where
  pub valued_more : (b : Bool) (i : ℕ) → Valued b text from i → i < length text → Valued (b && valued (get_or text i 0)) text from (i + 1)
  valued_more b i s h =
      record {
        each = λ e j a z. split j i
            (λ m. s.each (and_l b (valued (get_or text i 0)) e) j a m)
            (λ m. let q : j ≡ i = omega arith in
            let d : get_or text i 0 ≡ char_at text i = get_d_any text i 0 NEWLINE h in
            rw (q, ← d) (value_is (get_or text i 0) (and_r b (valued (get_or text i 0)) e)));
      }

-- ---- what is known without a lookup
module _ (t text : List ℕ) (from : ℕ) where
  pub known_nothing : Classed false t text from
  known_nothing = record { each = λ e j a z. absurd (no e) }
    where
      no : false ≡ true → ⊥
      no e = let z : ◌≡◌ {A = ℕ} 0 1 = cc in omega arith

  pub known_valued : good_table t ≡ true → (b : Bool) → sizes_before t (records t) ≡ PAST_BUILTIN → Valued b text from (length text) → Classed b t text from
  known_valued g b e s = record { each = λ k j a z. whole_classed t g text e j (s.each k j a z) }

-- ---- blocks of the built-in table
module _ (text : List ℕ) (from : ℕ) where
  pub passed_start : from ≤ total text → Passed text from from
  passed_start h = record { begins = omega arith; ends = h; each = λ j a z. absurd (omega arith) }

  pub passed_more : (b : Bool) (i end : ℕ) → Passed text from i → Builtin b text i end → b ≡ true → i < end → end ≤ length text → Passed text from end
  passed_more b i end s t e l h =
      record {
        begins = omega (arith, s.begins);
        ends = omega arith;
        each = λ j a z. split j i (λ m. s.each j a m) (λ m. t.each e j m z);
      }

-- ---- the rest of a text
module _ (t text : List ℕ) (from i : ℕ) (s : Passed text from i) where
  pub rest_passed : first_from (unclassed t text) (total text) i ≡ first_from (unclassed t text) (total text) from
  rest_passed =
      sym (first_passed _ (total text) from i s.begins s.ends (λ j a z. builtin_classed t text j (s.each j a z)))

  pub rest_known : (b : Bool) → Classed b t text i → b ≡ true → total text ≡ first_from (unclassed t text) (total text) from
  rest_known b k e =
      split i (length text)
      (λ l. rest_ended t text from (length text)
      (sym (first_passed _ (total text) i (length text) (omega arith) (omega arith) (k.each e)) ∙ rest_passed) (omega arith) (omega arith))
      (λ l. rest_ended t text from i rest_passed l s.ends)
