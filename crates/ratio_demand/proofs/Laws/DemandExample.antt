-- Eight fractions whose rounded sum is more than 4 parts in 2 ^ 24 away from their exact sum: so demand 3 does not hold with a 4 for its 9.
-- antt runs both sides.
-- Assumes nothing.
use Prim.Native.Nat.{ℕ, ◌*◌, ◌^◌}
use mathlib.Core.Path.{◌≡◌, refl}
use mathlib.Core.Bool.{true}
use mathlib.Core.List.{[], ◌∷◌}
use lib.Dec.{ltb}
use lib.IntN.{pos, nat_abs, ◌-ℤ◌}
use lib.Ieee.{round, add}
use Rattle.ratio.specs.declared.Fraction.{Fraction}
use Rattle.ratio.specs.Eight.{Fractions, ratios, sum}
use Rattle.ratio.specs.Inner.Eight.{fractions_in}
use Rattle.ratio.specs.Rounded.{rounded}
use Rattle.ratio_demand.specs.Demand.{denominators, numerators, exact, multiplied}
use Rattle.ratio.specs.Parts.{parts}

infix 70 ◌over◌
abbrev ◌over◌ : ℕ → ℕ → Fraction
p over q = record { num = p; den = q }

abbrev far : Fractions
far =
    fractions_in
    (819 over 583 ∷ 409 over 561 ∷ 812 over 316 ∷ 1169 over 900 ∷ 1183 over 572 ∷ 9 over 316 ∷ 91 over 908 ∷ 248 over 727 ∷ [])

pub four_is_too_few : ltb (4 * exact far) (2 ^ 24 * nat_abs (multiplied (sum (ratios far)) far -ℤ pos (exact far))) ≡ true
unfolding round add rounded ratios sum parts denominators numerators
four_is_too_few = refl
