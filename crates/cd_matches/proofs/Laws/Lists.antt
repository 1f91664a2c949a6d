-- What stands at a place of a list's images.
-- Assumes nothing.
use Prim.Native.Nat.{ℕ, zero, suc, ◌<◌}
use mathlib.Core.Path.{◌≡◌, refl}
use mathlib.Core.List.{List, [], ◌∷◌, map}
use native.Mathlib.Omega.{arith}
use lib.ListN.{length, get_or}

pub map_at : {B : Type 0} (f : ℕ → B) (l : List ℕ) (k : ℕ) (d : B) → k < length l → get_or (map f l) k d ≡ f (get_or l k 0)
map_at f [] k d h = absurd (omega arith)
map_at f (x ∷ l) zero d h = refl
map_at f (x ∷ l) (suc k) d h = map_at f l k d (omega arith)
