-- A walk of the letters for an accentuated one: `accented_more`, `_hit`, `_end`. And `accented_ranking`: the distinct letters of a layer
-- have one exactly if all of its letters do.
-- Assumes nothing.
use Prim.Native.Nat.{ℕ, ◌+◌, ◌≤◌, ◌<◌}
use mathlib.Core.Path.{◌≡◌, refl, sym, ap, ◌∙◌}
use mathlib.Core.Bool.{Bool, true, false, cond, ◌||◌, or-false, or_assoc, or_self_left}
use mathlib.Core.List.{List, [], ◌∷◌}
use native.Mathlib.Numerals.{add-one}
use lib.ListN.{length, get_or, drop, drop_of_length-le}
use lib.Seq.{drop-cons}
use lib.Dec.{eqb}
use borrow.Author.Tests.{eqb-true}
use Rattle.classes.specs.Lookup.{class_of}
use Rattle.cd_letters.specs.Letters.{popular_before, put_by_count, all_placed, ordered, ranking, count}
use Rattle.cd_taken_meaning.specs.Accents.{is_accentuated, some_accented}

module _ (classes letters : List ℕ) where
  -- what the letters from i on say is what all of them say
  abbrev pub Still : ℕ → Type 0
  Still i = some_accented classes (drop i letters) ≡ some_accented classes letters

  turn : (i : ℕ) → i < length letters
      → some_accented classes (drop i letters) ≡ is_accentuated (class_of classes (get_or letters i 0)) || some_accented classes (drop (i + 1) letters)
  unfolding some_accented
  turn i h = rw (add-one i, drop-cons letters i 0 h)

  module _ {i : ℕ} (s : Still i) where
    pub accented_more : i < length letters → is_accentuated (class_of classes (get_or letters i 0)) ≡ false → Still (i + 1)
    accented_more h e = sym (turn i h ∙ rw e) ∙ s

    pub accented_hit : i < length letters → is_accentuated (class_of classes (get_or letters i 0)) ≡ true → some_accented classes letters ≡ true
    accented_hit h e = sym s ∙ turn i h ∙ rw e

    pub accented_end : length letters ≤ i → some_accented classes letters ≡ false
    unfolding some_accented
    accented_end h = sym s ∙ ap (some_accented classes) (drop_of_length-le letters {i = i} h)

-- ---- which letters there are, not how often nor in which order
or_turned : (a b c : Bool) → b || (a || c) ≡ a || (b || c)
or_turned true true c = refl
or_turned true false c = refl
or_turned false b c = refl

module _ (classes : List ℕ) (f : ℕ → ℕ) where
  accented_placed : (x : ℕ) (r : List ℕ) → some_accented classes (put_by_count f x r) ≡ is_accentuated (class_of classes x) || some_accented classes r
  unfolding put_by_count some_accented
  accented_placed x [] = refl
  accented_placed x (y ∷ r) = go (eqb x y) (popular_before f x y) refl (accented_placed x r)
    where
      go : (s t : Bool) → eqb x y ≡ s → some_accented classes (put_by_count f x r) ≡ is_accentuated (class_of classes x) || some_accented classes r
          → some_accented classes (cond s (y ∷ r) (cond t (x ∷ y ∷ r) (y ∷ put_by_count f x r)))
          ≡ is_accentuated (class_of classes x) || (is_accentuated (class_of classes y) || some_accented classes r)
      go true t e i = rw (eqb-true x y e) (sym (or_self_left (is_accentuated (class_of classes y)) (some_accented classes r)))
      go false true e i = refl
      go false false e i = rw i (or_turned (is_accentuated (class_of classes x)) (is_accentuated (class_of classes y)) (some_accented classes r))

  accented_all : (r l : List ℕ) → some_accented classes (all_placed f r l) ≡ some_accented classes l || some_accented classes r
  unfolding all_placed some_accented
  accented_all r [] = refl
  accented_all r (x ∷ l) =
      accented_all (put_by_count f x r) l
      ∙ rw (accented_placed x r)
      (or_turned (is_accentuated (class_of classes x)) (some_accented classes l) (some_accented classes r)
      ∙ sym (or_assoc (is_accentuated (class_of classes x)) (some_accented classes l) (some_accented classes r)))

pub accented_ranking : (classes l : List ℕ) → some_accented classes (ranking l) ≡ some_accented classes l
unfolding ranking ordered some_accented
accented_ranking classes l = accented_all classes (λ x. count x l) [] l ∙ or-false (some_accented classes l)
