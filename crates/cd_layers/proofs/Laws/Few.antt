-- Different numbers below n are at most n: each has a mark of its own among n marks. So there are no more layers than ranges.
-- Assumes nothing.
use Prim.Native.Nat.{ℕ, zero, suc, ◌≤◌, ◌<◌}
use mathlib.Core.Path.{◌≡◌, refl, sym, ap, ◌∙◌}
use mathlib.Core.Bool.{Bool, true, false}
use mathlib.Core.List.{List, [], ◌∷◌, ◌++◌}
use native.Mathlib.Omega.{arith}
use native.Mathlib.Nat.{le_of_suc-le-suc, not-suc-le-zero}
use lib.ListN.{length, get_or, set, replicate, length-set, length-replicate, get_or-replicate, length-append, get_or-append}
use lib.Seq.{get_or-set_other, get_or-append_seam}

-- how many marks are set
abbrev marked : List Bool → ℕ
marked [] = 0
marked (true ∷ u) = suc (marked u)
marked (false ∷ u) = marked u

marked_le : (u : List Bool) → marked u ≤ length u
marked_le [] = omega arith
marked_le (true ∷ u) = omega (arith, marked_le u)
marked_le (false ∷ u) = omega (arith, marked_le u)

marked_none : (n : ℕ) → marked (replicate n false) ≡ 0
marked_none zero = refl
marked_none (suc n) = marked_none n

marked_more : (u : List Bool) (j : ℕ) → j < length u → get_or u j false ≡ false → marked (set u j true) ≡ suc (marked u)
marked_more [] j h e = absurd (not-suc-le-zero h)
marked_more (true ∷ u) zero h e = let z : ◌≡◌ {A = ℕ} 0 1 = cc in absurd (omega arith)
marked_more (false ∷ u) zero h e = refl
marked_more (true ∷ u) (suc j) h e = ap suc (marked_more u j (le_of_suc-le-suc h) e)
marked_more (false ∷ u) (suc j) h e = marked_more u j (le_of_suc-le-suc h) e

-- x is not in l
abbrev pub New : List ℕ → ℕ → Type 0
New l x = (j : ℕ) → j < length l → get_or l j 0 ≡ x → ⊥

-- a list of different numbers below n, with a mark for each
pub record Marks (n : ℕ) (l : List ℕ) : Type 0 where
  marks : List Bool
  size : length marks ≡ n
  count : marked marks ≡ length l
  clear : (x : ℕ) → x < n → New l x → get_or marks x false ≡ false

pub marks_start : (n : ℕ) → Marks n []
marks_start n =
    record {
      marks = replicate n false;
      size = length-replicate n false;
      count = marked_none n;
      clear = λ x h k. get_or-replicate n x false false h;
    }

module _ {n : ℕ} {l : List ℕ} (m : Marks n l) (x : ℕ) (h : x < n) (k : New l x) where
  up : marked (set m.marks x true) ≡ suc (marked m.marks)
  up = marked_more m.marks x (omega (arith, m.size)) (m.clear x h k)

  pub marks_room : length l < n
  marks_room = omega (arith, up, m.count, marked_le (set m.marks x true), length-set m.marks x true, m.size)

  pub marks_more : Marks n (l ++ (x ∷ []))
  marks_more =
      record {
        marks = set m.marks x true;
        size = length-set m.marks x true ∙ m.size;
        count = omega (arith, up, m.count, length-append l (x ∷ []));
        clear = λ y g e.
            get_or-set_other m.marks x y true false
            (λ q. e (length l) (omega (arith, length-append l (x ∷ []))) (get_or-append_seam l x [] 0 ∙ sym q))
            ∙ m.clear y g
            (λ j i q. e j (omega (arith, length-append l (x ∷ []))) (get_or-append l (x ∷ []) 0 j i ∙ q));
      }

pub marks_few : {n : ℕ} {l : List ℕ} → Marks n l → length l ≤ n
marks_few m = omega (arith, m.count, marked_le m.marks, m.size)
