-- Laws of a record's letters: how many there are, and which stands where.
-- Assumes nothing.
use Prim.Native.Nat.{ℕ, zero, suc, ◌+◌, ◌<◌}
use mathlib.Core.Path.{◌≡◌, refl, sym, ap, ◌∙◌}
use mathlib.Core.List.{List}
use native.Mathlib.Omega.{arith}
use lib.ListN.{length, get_or}
use Rattle.cd_languages.specs.Languages.{letter_count, slot_at}
use Rattle.cd_languages.specs.Letters.{listed, letters_of}

listed_length : (f : ℕ → ℕ) (i n : ℕ) → length (listed f i n) ≡ n
unfolding listed
listed_length f i zero = refl
listed_length f i (suc n) = ap suc (listed_length f (i + 1) n)

listed_at : (f : ℕ → ℕ) (i n k : ℕ) → k < n → get_or (listed f i n) k 0 ≡ f (i + k)
unfolding listed
listed_at f i zero k h = absurd (no k h)
  where
    no : (k : ℕ) → k < 0 → ⊥
    no k h = omega arith
listed_at f i (suc n) zero h = let e : i + 0 ≡ i = omega arith in rw e
listed_at f i (suc n) (suc k) h =
    let e : i + 1 + k ≡ i + suc k = omega arith in
    listed_at f (i + 1) n k (omega arith) ∙ rw e

pub letters_length : (t : List ℕ) (i : ℕ) → length (letters_of t i) ≡ letter_count t i
unfolding letters_of
letters_length t i = listed_length _ 0 _

pub letters_at : (t : List ℕ) (i k : ℕ) → k < letter_count t i → slot_at t i k ≡ get_or (letters_of t i) k 0
unfolding letters_of
letters_at t i k h =
    let e : 0 + k ≡ k = omega arith in
    sym (listed_at (slot_at t i) 0 (letter_count t i) k h ∙ rw e)
