-- The loop of `is_first` under way (`Finding`): no entry before k has the language of the entry i.
-- Assumes nothing.
use Prim.Native.Nat.{ℕ, ◌+◌, ◌≤◌, ◌<◌}
use mathlib.Core.Path.{◌≡◌, sym, ◌∙◌}
use mathlib.Core.Bool.{Bool, true, false}
use mathlib.Core.List.{List}
use native.Mathlib.Omega.{arith}
use lib.Dec.{eqb}
use borrow.Author.Tests.{eq-eqb, ne_eqb}
use Rattle.base.specs.First.{first}
use Rattle.base.specs.Inner.First.{first_from}
use Rattle.base.proofs.Laws.First.{first_start, first_hit, first_miss, first_end}
use Rattle.cd_merge_meaning.specs.Entries.{language_at}
use Rattle.cd_merge_meaning.specs.Merge.{is_first}

abbrev like : List ℕ → ℕ → ℕ → Bool
like list i k = eqb (language_at list k) (language_at list i)

pub record Finding (list : List ℕ) (i k : ℕ) : Type 0 where
  pub below : k ≤ i
  pub rest : first_from (like list i) i k ≡ first (like list i) i

module _ {list : List ℕ} {i : ℕ} where
  pub finding_start : Finding list i 0
  finding_start = record { below = omega arith; rest = first_start _ _ }

  module _ {k : ℕ} (g : Finding list i k) where
    pub finding_hit : k < i → language_at list k ≡ language_at list i → false ≡ is_first list i
    unfolding is_first
    finding_hit h e =
        let f : first (like list i) i ≡ k = sym g.rest ∙ first_hit (like list i) i k h (eq-eqb _ _ e) in
        sym (ne_eqb (first (like list i) i) i (λ (z : first (like list i) i ≡ i). omega (arith, h, f, z)))

    pub finding_miss : k < i → (language_at list k ≡ language_at list i → ⊥) → Finding list i (k + 1)
    finding_miss h e = record { below = omega arith; rest = sym (first_miss (like list i) i k h (ne_eqb _ _ e)) ∙ g.rest }

    pub finding_end : i ≤ k → true ≡ is_first list i
    unfolding is_first
    finding_end h =
        let s : k ≡ i = omega (arith, g.below) in
        let f : first (like list i) i ≡ k = sym g.rest ∙ first_end (like list i) i k s in
        sym (eq-eqb (first (like list i) i) i (f ∙ s))
