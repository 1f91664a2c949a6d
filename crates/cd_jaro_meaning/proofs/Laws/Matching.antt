-- Laws of the matching: the letters picked by the flags (`picked_more`: a letter taken is one more), one letter's step (`more_hit`,
-- `more_miss`), and that there are as many letters taken as letters that took one (`Even`).
-- Assumes nothing.
use Prim.Native.Nat.{ℕ, zero, suc, ◌+◌, ◌≤◌, ◌<◌}
use mathlib.Core.Path.{◌≡◌, refl, ap, ◌∙◌}
use mathlib.Core.Bool.{Bool, true, false}
use mathlib.Core.List.{List, [], ◌∷◌, ◌++◌}
use native.Mathlib.Numerals.{add-one}
use native.Mathlib.Omega.{arith}
use native.Mathlib.Nat.{le_of_suc-le-suc, not-suc-le-zero}
use lib.ListN.{length, get_or, set, replicate, length-set, length-replicate, length-append}
use lib.Dec.{ltb}
use borrow.Author.Tests.{ltb-true, lt-ltb, le-ltb}
use Rattle.base.proofs.Laws.Tests.{by_test}
use Rattle.cd_jaro_meaning.specs.Jaro.{window, Matching, place, takes, matching, picked}
use Rattle.cd_jaro_meaning.proofs.Laws.Place.{place_free}

pub picked_le : (l : List ℕ) (t : List Bool) → length (picked l t) ≤ length l
unfolding picked
picked_le [] t = omega arith
picked_le (y ∷ l) [] = omega arith
picked_le (y ∷ l) (true ∷ t) = omega (arith, picked_le l t)
picked_le (y ∷ l) (false ∷ t) = omega (arith, picked_le l t)

-- one more flag is one more letter
pub picked_more : (l : List ℕ) (t : List Bool) (j : ℕ) → j < length l → length t ≡ length l → get_or t j false ≡ false
    → length (picked l (set t j true)) ≡ suc (length (picked l t))
unfolding picked
picked_more [] t j h n e = absurd (not-suc-le-zero h)
picked_more (y ∷ l) [] j h n e = absurd (omega arith)
picked_more (y ∷ l) (true ∷ t) zero h n e = let z : ◌≡◌ {A = ℕ} 0 1 = cc in absurd (omega arith)
picked_more (y ∷ l) (false ∷ t) zero h n e = refl
picked_more (y ∷ l) (true ∷ t) (suc j) h n e = ap suc (picked_more l t j (le_of_suc-le-suc h) (omega arith) e)
picked_more (y ∷ l) (false ∷ t) (suc j) h n e = picked_more l t j (le_of_suc-le-suc h) (omega arith) e

picked_none : (l : List ℕ) (n : ℕ) → picked l (replicate n false) ≡ []
unfolding picked
picked_none [] n = refl
picked_none (y ∷ l) zero = refl
picked_none (y ∷ l) (suc n) = picked_none l n

-- what taking the letter at j makes of a matching
abbrev pub hit : Matching → ℕ → ℕ → Matching
hit s x j = record { taken = set s.taken j true; letters = s.letters ++ (x ∷ []) }

module _ (layer language : List ℕ) where
  -- where the letter at i finds its place
  abbrev pub at : ℕ → ℕ
  at i = place language (matching layer language i).taken (get_or layer i 0) i (window (length layer) (length language))

  more : (i : ℕ) → matching layer language (i + 1) ≡ takes language (matching layer language i) (get_or layer i 0) (at i)
  unfolding matching
  more i = rw add-one

  pub more_hit : (i : ℕ) → at i < length language → matching layer language (i + 1) ≡ hit (matching layer language i) (get_or layer i 0) (at i)
  unfolding takes
  more_hit i h = more i ∙ rw (lt-ltb _ _ h)

  pub more_miss : (i : ℕ) → length language ≤ at i → matching layer language (i + 1) ≡ matching layer language i
  unfolding takes
  more_miss i h = more i ∙ rw (le-ltb _ _ h)

  -- a flag for each letter of the language, and as many set as letters took one
  pub record Even (s : Matching) : Type 0 where
    pub flags : length s.taken ≡ length language
    pub pairs : length (picked language s.taken) ≡ length s.letters

  even_hit : (s : Matching) (j x : ℕ) → Even s → j < length language → get_or s.taken j false ≡ false → Even (hit s x j)
  even_hit s j x e h f =
      record {
        flags = length-set s.taken j true ∙ e.flags;
        pairs = omega (arith, picked_more language s.taken j h e.flags f, e.pairs, length-append s.letters (x ∷ []));
      }

  pub even : (i : ℕ) → Even (matching layer language i)
  unfolding matching takes
  even zero = record { flags = length-replicate (length language) false; pairs = rw (picked_none language (length language)) }
  even (suc i) =
      by_test Even (ltb (at i) (length language)) (hit (matching layer language i) (get_or layer i 0) (at i)) (matching layer language i)
      (λ p. let h : at i < length language = ltb-true _ _ p in
      even_hit (matching layer language i) (at i) (get_or layer i 0) (even i) h (place_free language (matching layer language i).taken (get_or layer i 0) i _ h))
      (λ p. even i)

  -- after i letters at most i are matched
  pub letters_le : (i : ℕ) → length (matching layer language i).letters ≤ i
  unfolding matching takes
  letters_le zero = omega arith
  letters_le (suc i) =
      by_test (λ (s : Matching). length s.letters ≤ suc i) (ltb (at i) (length language)) (hit (matching layer language i) (get_or layer i 0) (at i)) (matching layer language i)
      (λ p. omega (arith, letters_le i, length-append (matching layer language i).letters (get_or layer i 0 ∷ [])))
      (λ p. omega (arith, letters_le i))
