-- A walk that looks whether a number of a list is above m (`Looked`): its step and its end.
-- Assumes nothing.
use Prim.Native.Nat.{ℕ, ◌+◌, ◌≤◌, ◌<◌}
use mathlib.Core.Path.{◌≡◌, refl, sym, ◌∙◌}
use mathlib.Core.Bool.{Bool, true, false, ◌||◌}
use mathlib.Core.List.{List}
use native.Mathlib.Numerals.{add-one}
use native.Mathlib.Omega.{arith}
use lib.ListN.{length, get_or, drop, drop_of_length-le}
use lib.Seq.{drop-cons}
use lib.Dec.{ltb}
use Rattle.md_running_meaning.specs.State.{any_above}

or_assoc : (a b c : Bool) → (a || (b || c)) ≡ ((a || b) || c)
or_assoc true b c = refl
or_assoc false b c = refl

or_false : (a : Bool) → (a || false) ≡ a
or_false true = refl
or_false false = refl

-- the walk stands at k: what it found, or what is left, is all there is
pub record Looked (list : List ℕ) (m : ℕ) (above : Bool) (k : ℕ) : Type 0 where
  pub below : k ≤ length list
  pub all : (above || any_above m (drop k list)) ≡ any_above m list

module _ (list : List ℕ) (m : ℕ) where
  pub looked_more : {above : Bool} {k : ℕ} → Looked list m above k → k < length list → Looked list m (above || ltb m (get_or list k 0)) (k + 1)
  unfolding any_above
  looked_more {above} {k} g h =
      let e : any_above m (drop k list) ≡ (ltb m (get_or list k 0) || any_above m (drop (k + 1) list)) = rw (drop-cons list k 0 h, add-one k) in
      let f : (above || (ltb m (get_or list k 0) || any_above m (drop (k + 1) list))) ≡ any_above m list = rw e at g.all in
      record { below = omega arith; all = sym (or_assoc above (ltb m (get_or list k 0)) (any_above m (drop (k + 1) list))) ∙ f }

  pub looked_end : {above : Bool} {k : ℕ} → Looked list m above k → length list ≤ k → above ≡ any_above m list
  unfolding any_above
  looked_end {above} g h = sym (or_false above) ∙ (rw (drop_of_length-le list h) at g.all)
