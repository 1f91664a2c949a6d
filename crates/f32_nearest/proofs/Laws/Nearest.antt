-- Laws of the nearest f32: it depends on the f64's value alone (`nearest_is`); what `nearest_f32` takes is no NaN (`narrowable_real`), and
-- neither is what it gives (`nearest_real`).
-- Assumes nothing.
use Prim.Native.Nat.{ℕ, zero, suc, ◌+◌, ◌*◌, ◌^◌, ◌<◌}
use mathlib.Core.Path.{◌≡◌}
use mathlib.Core.Logic.{inl, inr}
use mathlib.Core.Bool.{Bool, true, false, cond, not}
use native.Mathlib.Omega.{arith}
use lib.Dec.{T, ltb}
use lib.Ieee.{Float, nan, inf, fin, Format, binary32, prec, emax, low, up, down, odd, units, round, le, lt, eq, is_nan}
use lib.Ieee.Fits.{down_pos, round_is}
use lib.Ieee.Exact.{HasValue}
use lib.Ieee.Scale.{round_same}
use Rattle.f32_nearest.specs.Nearest.{nearest_f32}
use Rattle.f32_nearest.specs.Inner.Nearest.{Narrowable, NOUGHT}

-- of a value a/c that is not negative it is a/c, rounded
pub nearest_is : (x : Float) (a c : ℕ) → 0 < c → HasValue x false a c → nearest_f32 x ≡ round binary32 false a c
unfolding nearest_f32
nearest_is nan a c p v = absurd v
nearest_is (inf s) a c p v = absurd v
nearest_is (fin s m e) a c p v = rw v.0 (round_same binary32 false (m * up e) (down e) a c (down_pos e) p v.1)

pub narrowable_real : (x : Float) → Narrowable x → T (not (is_nan x))
unfolding is_nan le lt eq
narrowable_real nan (inl e) = absurd (differ e)
  where
    differ : nan ≡ NOUGHT → ⊥
    differ e = let z : ◌≡◌ {A = ℕ} 0 1 = cc in omega arith
narrowable_real nan (inr (a, b)) = absurd a
narrowable_real (inf s) r = tt
narrowable_real (fin s m e) r = tt

-- rounding gives a number or an infinity, and so does `nearest_f32` of what is no NaN
odd_real : (d : ℕ) (s : Bool) (q k l : ℕ) → T (not (is_nan (odd d s q k l)))
unfolding is_nan odd
odd_real d s zero k l = tt
odd_real d s (suc q) k l = tt

units_real : (f : Format) (s : Bool) (q k : ℕ) → T (not (is_nan (units f s q k)))
unfolding is_nan units
units_real f s q k = go (ltb (q * 2 ^ k) (2 ^ (low f + suc (emax f)))) (odd (suc (prec f)) s q k (low f)) (odd_real (suc (prec f)) s q k (low f))
  where
    go : (b : Bool) (x : Float) → T (not (is_nan x)) → T (not (is_nan (cond b x (inf s))))
    go true x r = r
    go false x r = tt

round_real : (f : Format) (s : Bool) (n d : ℕ) → T (not (is_nan (round f s n d)))
round_real f s n d = rw (round_is f s n d) (units_real f s _ _)

pub nearest_real : (x : Float) → T (not (is_nan x)) → T (not (is_nan (nearest_f32 x)))
unfolding nearest_f32 is_nan
nearest_real nan r = r
nearest_real (inf s) r = tt
nearest_real (fin s m e) r = round_real binary32 s (m * up e) (down e)
