-- Cutting goes by the last code point: a newline there goes, and anything else ends it.
-- Assumes nothing.
use Prim.Native.Nat.{ℕ, suc, ◌-◌, ◌≤◌, ◌<◌}
use mathlib.Core.Path.{◌≡◌, refl, sym, ap, ◌∙◌}
use mathlib.Core.Bool.{Bool, true, false, ◌&&◌}
use mathlib.Core.List.{List, [], ◌∷◌, ◌++◌}
use native.Mathlib.Omega.{arith}
use lib.Dec.{eqb}
use lib.ListN.{length, get_or, take}
use lib.Seq.{take-suc}
use borrow.Author.Tests.{ne_eqb}
use Rattle.base.specs.Limits.{NEWLINE}
use Rattle.base.proofs.Laws.Tests.{cond_both}
use Rattle.md_chooser_meaning.specs.Cut.{only_newlines, cut}

-- a newline more
only_more : (l : List ℕ) → only_newlines (l ++ (NEWLINE ∷ [])) ≡ only_newlines l
only_more [] = refl
only_more (x ∷ xs) = ap (λ (b : Bool). eqb x NEWLINE && b) (only_more xs)

pub newline_goes : (l : List ℕ) → cut (l ++ (NEWLINE ∷ [])) ≡ cut l
unfolding cut
newline_goes [] = refl
newline_goes (x ∷ xs) = simp (only_more xs, newline_goes xs)

-- anything else at the end
and_no : (a : Bool) → a && false ≡ false
and_no true = refl
and_no false = refl

not_only : (l : List ℕ) (y : ℕ) → (y ≡ NEWLINE → ⊥) → only_newlines (l ++ (y ∷ [])) ≡ false
not_only [] y ne = simp (ne_eqb y NEWLINE ne)
not_only (x ∷ xs) y ne = simp (not_only xs y ne) (and_no (eqb x NEWLINE))

pub other_stays : (l : List ℕ) (y : ℕ) → (y ≡ NEWLINE → ⊥) → cut (l ++ (y ∷ [])) ≡ l ++ (y ∷ [])
unfolding cut
other_stays [] y ne = simp (ne_eqb y NEWLINE ne)
other_stays (x ∷ xs) y ne = simp (not_only xs y ne, and_no (eqb x NEWLINE), other_stays xs y ne)

module _ (text : List ℕ) (n : ℕ) (more : 0 < n) (inside : n ≤ length text) where
  split_last : take n text ≡ take (n - 1) text ++ (get_or text (n - 1) 0 ∷ [])
  split_last = let e : n ≡ suc (n - 1) = omega arith in ap (λ (k : ℕ). take k text) e ∙ take-suc text (n - 1) 0 (omega arith)

  pub cut_back : get_or text (n - 1) 0 ≡ NEWLINE → cut (take n text) ≡ cut (take (n - 1) text)
  cut_back e = rw split_last (rw e (newline_goes (take (n - 1) text)))

  pub cut_found : (get_or text (n - 1) 0 ≡ NEWLINE → ⊥) → take n text ≡ cut (take n text)
  cut_found ne = rw split_last (sym (other_stays (take (n - 1) text) (get_or text (n - 1) 0) ne))

pub cut_none : (text : List ℕ) (n : ℕ) → n ≤ 0 → take n text ≡ cut (take n text)
unfolding cut
cut_none text n h = let e : n ≡ 0 = omega arith in rw e

-- no more is left than there was
pub cut_within : (l : List ℕ) → length (cut l) ≤ length l
unfolding cut
cut_within [] = omega arith
cut_within (x ∷ xs) =
    cond_both (λ (l : List ℕ). length l ≤ suc (length xs)) (only_newlines (x ∷ xs)) [] (x ∷ cut xs) (omega arith) (omega (arith, cut_within xs))
