-- A number is finite exactly if it lies between the infinities; and what has no minus sign and is a number of parts is plain.
-- Assumes nothing.
use Prim.Native.Nat.{ℕ, ◌*◌, ◌≤◌}
use mathlib.Core.Path.{◌≡◌, refl, ap, ◌∙◌}
use mathlib.Core.Bool.{Bool, true, false, not, ◌&&◌}
use native.Mathlib.Omega.{arith}
use lib.Dec.{T, lit<}
use lib.Pow.{pow_pos}
use lib.IntN.{pos}
use lib.Ieee.{Float, nan, inf, fin, binary32, is_nan, of_bits, le, lt}
use lib.Ieee.Bits.{is_true}
use lib.Ieee.Exact.{HasValue}
use lib.Ieee.Order.{le_of_values}
use Rattle.ratio.specs.Parts.{ONE}
use Rattle.ratio.specs.Finite.{is_finite}
use Rattle.ratio.specs.Inner.Finite.{Plain}

pub between : (x : Float) → (lt (inf true) x && lt x (inf false)) ≡ is_finite x
unfolding lt
between nan = refl
between (inf true) = refl
between (inf false) = refl
between (fin sign m e) = refl

finite_of : (x : Float) (s : Bool) (w c : ℕ) → HasValue x s w c → is_finite x ≡ true
finite_of nan s w c h = absurd h
finite_of (inf t) s w c h = absurd h
finite_of (fin t m e) s w c h = refl

no_nan_of : (x : Float) (s : Bool) (w c : ℕ) → HasValue x s w c → T (not (is_nan x))
unfolding is_nan
no_nan_of nan s w c h = absurd h
no_nan_of (inf t) s w c h = tt
no_nan_of (fin t m e) s w c h = tt

zero_is : of_bits binary32 0 ≡ fin false 0 (pos 0)
unfolding of_bits
zero_is = refl

pub plain_of : (x : Float) (w : ℕ) → HasValue x false w ONE → Plain x
plain_of x w h =
    record {
      size = w;
      value = h;
      is_finite_holds = finite_of x false w ONE h;
      no_nan = no_nan_of x false w ONE h;
      not_negative =
          ap (λ (z : Float). le z x) zero_is
          ∙ is_true (le (fin false 0 (pos 0)) x) (le_of_values (fin false 0 (pos 0)) x 0 1 w ONE (lit< tt) (pow_pos 149) (refl, refl) h (least w ONE));
    }
  where
    least : (w l : ℕ) → 0 * l ≤ w * 1
    least w l = omega arith
