-- Words of inner contracts, beside Nearest: `NOUGHT`, `EIGHTH`, `ONE`, `Narrowable`. No public promise rests on them.
-- Assumes nothing.
use Rattle.std.specs.Prelude.{◌≡◌, ◌⊎◌, false, T, pos, negsuc, Float}
use Rattle.std.specs.Float.{fin}
use Rattle.std.specs.Float.Ieee.{le}

-- +0, 1/8 and 1, which both formats hold
abbrev pub NOUGHT : Float
NOUGHT = fin false 0 (pos 0)

abbrev pub EIGHTH : Float
EIGHTH = fin false 1 (negsuc 2)

abbrev pub ONE : Float
ONE = fin false 1 (pos 0)

-- what `nearest_f32` is for: +0, and the values from 1/8 to 1
abbrev pub Narrowable : Float → Type 0
Narrowable x = (x ≡ NOUGHT) ⊎ (T (le EIGHTH x) × T (le x ONE))
