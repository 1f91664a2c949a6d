-- A finite f32 as a whole number (01, "Promises with no slack": "a finite f32 is a signed whole number of parts of 2^-149"). Laws: proofs/Laws/Parts.
-- Assumes nothing.
use Rattle.std.specs.Prelude.{ℕ, ◌*◌, ◌/◌, ◌^◌, Bool, cond, ℤ, pos, neg_ℤ, Float}
use Rattle.std.specs.Float.{nan, inf, fin}
use Rattle.std.specs.Float.Ieee.{up, down}

-- one is so many parts
abbrev pub ONE : ℕ
ONE = 2 ^ 149

-- w, negative where the sign is set
abbrev pub signed : Bool → ℕ → ℤ
signed sign w = cond sign (neg_ℤ (pos w)) (pos w)

-- A finite f32 in parts of 2 ^ -149: `fin sign m e` is the number m * 2 ^ e, and 2 ^ e is up e / down e. The division leaves no
-- remainder at any value that an f32 holds (`Parts`: parts-whole). NaN and the infinities are no number of parts; 0 stands for them here.
unfoldable pub parts : Float → ℤ
parts nan = pos 0
parts (inf sign) = pos 0
parts (fin sign m e) = signed sign (m * up e * ONE / down e)
