-- Laws of the place that a letter takes: it was free (`place_free`), and it is the first (`place_first`): what serves stands there or behind it.
-- Assumes nothing.
use Prim.Native.Nat.{ℕ, ◌+◌, ◌-◌, ◌≤◌, ◌<◌}
use mathlib.Core.Path.{◌≡◌, refl, sym, ◌∙◌}
use mathlib.Core.Bool.{Bool, true, false, not, ◌&&◌, true≢false}
use mathlib.Core.List.{List}
use lib.ListN.{length, get_or}
use Rattle.base.specs.Tests.{within}
use Rattle.base.proofs.Laws.First.{first_before, first_found}
use Rattle.base.proofs.Laws.Tests.{and_r, split}
use Rattle.cd_jaro_meaning.specs.Jaro.{serves, place}

free_of : (a t e : Bool) → (a && (not t && e)) ≡ true → t ≡ false
free_of a true e h = sym (and_r a false h)
free_of a false e h = refl

module _ (language : List ℕ) (taken : List Bool) (x i w : ℕ) where
  pub place_free : place language taken x i w < length language → get_or taken (place language taken x i w) false ≡ false
  unfolding place serves
  place_free h = free_of (within (i - w) (i + w) _) _ _ (first_found (serves language taken x i w) (length language) h)

  -- "the first free equal one in it"
  pub place_first : (j : ℕ) → serves language taken x i w j ≡ true → place language taken x i w ≤ j
  unfolding place
  place_first j s =
      split j (place language taken x i w)
      (λ h. absurd (true≢false (sym s ∙ first_before (serves language taken x i w) (length language) j h)))
      (λ h. h)
