-- The place of an index is the index and 1. Assumes nothing.
use Prim.Native.Nat.{ℕ}
use mathlib.Core.Path.{◌≡◌, ap}
use lib.Dec.{eqb}
use Rattle.md_reason.proofs.growing.grew_at.Goals as goal

same : (m n k : ℕ) → m ≡ n → eqb m k ≡ eqb n k
same m n k e = ap (λ (l : ℕ). eqb l k) e

pub returns : goal.returns
returns c = same _ _ _ c.growth_of.ensures
