-- Laws of Text: a reading from any place on, one sequence of it, and where it ends; each sequence lies within the bytes.
-- Assumes nothing.
use Prim.Native.Nat.{ℕ, zero, suc, ◌+◌, ◌-◌, ◌≤◌, ◌<◌}
use mathlib.Core.Path.{◌≡◌, refl, sym, ap, ◌∙◌}
use mathlib.Core.List.{List, [], ◌∷◌}
use mathlib.Core.Bool.{true, false}
use native.Mathlib.Nat.{sub-zero}
use native.Mathlib.Omega.{arith}
use lib.ListN.{length, get_or, get_or-eq_default}
use lib.Dec.{eqb}
use borrow.Author.Tests.{lt-ltb, le-ltb, eqb-true, eqb-false, eq-eqb, ne_eqb}
use Rattle.base.proofs.Laws.Tests.{by_test, cond_same, split}
use Rattle.utf8_table.specs.WellFormed.{row, byte_at, step_at}
use Rattle.utf8_table.proofs.Laws.Sound.{Sound, row_sound}
use Rattle.utf8_meaning.specs.Text.{Reading, ended, after, steps, reading, text_of, fault_at, well_formed}
use Rattle.utf8_meaning.specs.Inner.Text.{from}

-- one code point before a reading
abbrev more : ℕ → Reading → Reading
more p r = after (p ∷ []) r

pub past : (bytes : List ℕ) (i : ℕ) → length bytes ≤ i → (step_at bytes i).size ≡ 0
unfolding step_at
past bytes i h = rw (le-ltb i (length bytes) h)

inside : (xs : List ℕ) (j : ℕ) → 0 < get_or xs j 0 → j < length xs
inside xs j h =
    split j (length xs) (λ k. k) (λ k. let e : get_or xs j 0 ≡ 0 = get_or-eq_default xs 0 k in absurd (no e))
  where
    no : get_or xs j 0 ≡ 0 → ⊥
    no e = omega arith

module _ (bytes : List ℕ) (i : ℕ) where
  pub at_row : i < length bytes
      → step_at bytes i ≡ row (byte_at bytes i) (byte_at bytes (i + 1)) (byte_at bytes (i + 2)) (byte_at bytes (i + 3))
  unfolding step_at
  at_row h = rw (lt-ltb i (length bytes) h)

  module _ (e : (step_at bytes i).size ≡ 0 → ⊥) where
    not_end : i < length bytes
    not_end = split i (length bytes) (λ k. k) (λ k. absurd (e (past bytes i k)))

    pub step_sound : Sound (byte_at bytes i) (byte_at bytes (i + 1)) (byte_at bytes (i + 2)) (byte_at bytes (i + 3)) (step_at bytes i)
    step_sound = rw (at_row not_end) (row_sound _ _ _ _ (rw (at_row not_end) at e))

    -- a sequence lies within the bytes
    pub step_fits : i + (step_at bytes i).size ≤ length bytes
    step_fits =
        let s = step_sound in
        let a : i < length bytes = not_end in
        split (step_at bytes i).size 2 (λ k. omega arith)
        (λ k. let b : i + 1 < length bytes = inside bytes (i + 1) (s.second k) in
        split (step_at bytes i).size 3 (λ l. omega arith)
        (λ l. let c : i + 2 < length bytes = inside bytes (i + 2) (s.third l) in
        split (step_at bytes i).size 4 (λ m. omega arith)
        (λ m. let d : i + 3 < length bytes = inside bytes (i + 3) (s.fourth m) in omega (arith, s.most))))

module _ (bytes : List ℕ) where
  one_end : (n i : ℕ) → length bytes ≤ i → ended i ≡ steps n bytes i
  unfolding steps
  one_end zero i h = refl
  one_end (suc n) i h = rw (past bytes i h)

  -- as many steps as bytes are left, or more, read the same
  enough : (n m i : ℕ) → length bytes ≤ n + i → length bytes ≤ m + i → steps n bytes i ≡ steps m bytes i
  unfolding steps
  enough zero m i h k = one_end m i (omega arith)
  enough (suc n) zero i h k = sym (one_end (suc n) i (omega arith))
  enough (suc n) (suc m) i h k =
      cond_same (eqb (step_at bytes i).size 0) _ _ _
      (λ e. ap (more (step_at bytes i).point)
      (enough n m (i + (step_at bytes i).size)
      (later n h (eqb-false (step_at bytes i).size 0 e))
      (later m k (eqb-false (step_at bytes i).size 0 e))))
    where
      later : (q : ℕ) → length bytes ≤ suc q + i → ((step_at bytes i).size ≡ 0 → ⊥) → length bytes ≤ q + (i + (step_at bytes i).size)
      later q h e = omega arith

  pub from_start : from bytes 0 ≡ reading bytes
  unfolding from reading
  from_start = rw sub-zero

  pub from_end : (i : ℕ) → (step_at bytes i).size ≡ 0 → from bytes i ≡ ended i
  unfolding from steps
  from_end i e = enough (length bytes - i) (suc (length bytes)) i (omega arith) (omega arith) ∙ rw e

  pub from_step : (i : ℕ) → ((step_at bytes i).size ≡ 0 → ⊥)
      → from bytes i ≡ after ((step_at bytes i).point ∷ []) (from bytes (i + (step_at bytes i).size))
  unfolding from steps
  from_step i e =
      enough (length bytes - i) (suc (length bytes)) i (omega arith) (omega arith)
      ∙ rw (ne_eqb (step_at bytes i).size 0 e)
      (ap (more (step_at bytes i).point) (enough (length bytes) (length bytes - (i + (step_at bytes i).size)) _ (omega arith) (omega arith)))

  -- a reading stops within the bytes, at or after its start, and there no sequence stands
  pub stop_within : (n i : ℕ) → i ≤ length bytes → (steps n bytes i).stop ≤ length bytes
  unfolding steps
  stop_within zero i h = h
  stop_within (suc n) i h =
      by_test (λ (r : Reading). r.stop ≤ length bytes) (eqb (step_at bytes i).size 0) _ _
      (λ e. h) (λ e. stop_within n _ (step_fits bytes i (eqb-false _ 0 e)))

  stop_after : (n i : ℕ) → i ≤ (steps n bytes i).stop
  unfolding steps
  stop_after zero i = omega arith
  stop_after (suc n) i =
      by_test (λ (r : Reading). i ≤ r.stop) (eqb (step_at bytes i).size 0) _ _
      (λ e. omega arith) (λ e. let h = stop_after n (i + (step_at bytes i).size) in omega arith)

  -- n sequences are at most n code points, so that a text has no more of them than its bytes are
  few_steps : (n i : ℕ) → length (steps n bytes i).text ≤ n
  unfolding steps
  few_steps zero i = omega arith
  few_steps (suc n) i =
      by_test (λ (r : Reading). length r.text ≤ suc n) (eqb (step_at bytes i).size 0) _ _
      (λ e. omega arith) (λ e. let h = few_steps n (i + (step_at bytes i).size) in omega arith)

  pub text_few : length (text_of bytes) ≤ length bytes
  unfolding reading
  text_few = few_steps (length bytes) 0

  pub fault_within : fault_at bytes ≤ length bytes
  unfolding reading
  fault_within = stop_within (length bytes) 0 (omega arith)

  pub from_after : (i : ℕ) → i ≤ (from bytes i).stop
  unfolding from
  from_after i = stop_after (length bytes - i) i

  pub whole_is : well_formed bytes ≡ true → fault_at bytes ≡ length bytes
  unfolding well_formed
  whole_is e = eqb-true (fault_at bytes) (length bytes) e

  pub is_whole : length bytes ≤ fault_at bytes → well_formed bytes ≡ true
  unfolding well_formed
  is_whole h = eq-eqb (fault_at bytes) (length bytes) (omega (arith, fault_within))

  pub is_broken : fault_at bytes < length bytes → well_formed bytes ≡ false
  unfolding well_formed
  is_broken h = ne_eqb (fault_at bytes) (length bytes) (λ e. omega arith)

  pub broken_is : well_formed bytes ≡ false → fault_at bytes < length bytes
  unfolding well_formed
  broken_is e = let n = eqb-false (fault_at bytes) (length bytes) e in let w = fault_within in split (fault_at bytes) (length bytes) (λ h. h) (λ h. absurd (n (omega arith)))
