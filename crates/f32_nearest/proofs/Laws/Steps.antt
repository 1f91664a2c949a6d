-- What each step of `nearest_f32` rests on.
-- Assumes nothing.
use Prim.Native.Nat.{ℕ, ◌-◌, ◌*◌, ◌/◌, ◌%◌, ◌^◌, ◌≤◌, ◌<◌, compare}
use mathlib.Core.Path.{◌≡◌, refl, sym, ap, ◌∙◌, subst}
use mathlib.Core.Logic.{inl, inr}
use mathlib.Core.Bool.{true, not}
use native.Mathlib.Omega.{arith}
use lib.Dec.{T}
use lib.Ieee.{Float, binary32, binary64, nearest, round, fits, nan_bits, of_bits, to_bits}
use lib.Ieee.Fits.{nearest-le}
use lib.Ieee.Nearest.{nearest-ge}
use lib.Ieee.Bits.{of_bits-to_bits}
use Rattle.f32_nearest.specs.Inner.Fields.{DROPPED, SETTLED_END}
use Rattle.f32_nearest.proofs.Laws.Fields.{REBIASED, LEAST, ABOVE}
use Rattle.f32_nearest.specs.Nearest.{nearest_f32}
use Rattle.f32_nearest.specs.Inner.Nearest.{Narrowable}
use Rattle.f32_nearest.proofs.Laws.NearestBits.{nearest_bits, bits_real}
use Rattle.f32_nearest.proofs.Laws.Range.{narrowable_bits}

module _ (x : Float) (r : Narrowable x) (g : fits binary64 x ≡ true) where
  held : T (fits binary64 x)
  held = rw g tt

  -- +0 is the one value whose bits are 0
  pub zero_out : to_bits binary64 x ≡ 0 → of_bits binary32 0 ≡ nearest_f32 x
  unfolding of_bits nearest_f32 round
  zero_out e = subst (λ (z : Float). of_bits binary32 0 ≡ nearest_f32 z) (ap (of_bits binary64) (sym e) ∙ of_bits-to_bits binary64 x held) refl

  module _ (n : to_bits binary64 x ≡ 0 → ⊥) where
    low_high : (LEAST ≤ to_bits binary64 x) × (to_bits binary64 x < ABOVE)
    low_high = elim (narrowable_bits x r) [ inl e ↦ absurd (n e) | inr h ↦ h ]

    pub settled_fits : to_bits binary64 x / DROPPED < SETTLED_END
    settled_fits = omega (arith, low_high.1)

    module _ (v : ℕ) (e : v ≡ nearest (to_bits binary64 x / DROPPED) (compare (to_bits binary64 x % DROPPED * 2) DROPPED)) where
      pub settled_low : REBIASED ≤ v
      settled_low = rw e (omega (arith, low_high.0, nearest-ge (to_bits binary64 x / DROPPED) (compare (to_bits binary64 x % DROPPED * 2) DROPPED)))

      pub settled_high : v - REBIASED < 2 ^ 32
      settled_high = rw e (omega (arith, low_high.1, nearest-le (to_bits binary64 x / DROPPED) (compare (to_bits binary64 x % DROPPED * 2) DROPPED)))

      pub settled_real : T (not (nan_bits binary32 (v - REBIASED)))
      settled_real = rw (e, bits_real (to_bits binary64 x) low_high.0 low_high.1) tt

      pub settled_out : of_bits binary32 (v - REBIASED) ≡ nearest_f32 x
      settled_out = rw e (nearest_bits (to_bits binary64 x) low_high.0 low_high.1 ∙ ap nearest_f32 (of_bits-to_bits binary64 x held))
