-- A walk that looks whether a number stands in a list (`Looking`): its start, its step and its end.
-- Assumes nothing.
use Prim.Native.Nat.{ℕ, ◌+◌, ◌≤◌, ◌<◌}
use mathlib.Core.Path.{◌≡◌, refl, sym, ◌∙◌}
use mathlib.Core.Bool.{Bool, true, false, ◌||◌}
use mathlib.Core.List.{List}
use native.Mathlib.Numerals.{add-one}
use native.Mathlib.Omega.{arith}
use lib.ListN.{length, get_or, drop, drop_of_length-le}
use lib.Seq.{drop-cons}
use lib.Dec.{eqb}
use Rattle.base.specs.Among.{among}

or_assoc : (a b c : Bool) → (a || (b || c)) ≡ ((a || b) || c)
or_assoc true b c = refl
or_assoc false b c = refl

or_false : (a : Bool) → (a || false) ≡ a
or_false true = refl
or_false false = refl

-- the walk stands at k: what it found, or what is left, is all there is
pub record Looking (letters : List ℕ) (x : ℕ) (held : Bool) (k : ℕ) : Type 0 where
  pub below : k ≤ length letters
  pub all : (held || among x (drop k letters)) ≡ among x letters

module _ (letters : List ℕ) (x : ℕ) where
  pub looking_start : Looking letters x false 0
  looking_start = record { below = omega arith; all = refl }

  pub looking_more : {held : Bool} {k : ℕ} → Looking letters x held k → k < length letters → Looking letters x (held || eqb (get_or letters k 0) x) (k + 1)
  unfolding among
  looking_more {held} {k} g h =
      let e : among x (drop k letters) ≡ (eqb (get_or letters k 0) x || among x (drop (k + 1) letters)) = rw (drop-cons letters k 0 h, add-one k) in
      let f : (held || (eqb (get_or letters k 0) x || among x (drop (k + 1) letters))) ≡ among x letters = rw e at g.all in
      record { below = omega arith; all = sym (or_assoc held (eqb (get_or letters k 0) x) (among x (drop (k + 1) letters))) ∙ f }

  pub looking_end : {held : Bool} {k : ℕ} → Looking letters x held k → length letters ≤ k → held ≡ among x letters
  unfolding among
  looking_end {held} g h = sym (or_false held) ∙ (rw (drop_of_length-le letters h) at g.all)
