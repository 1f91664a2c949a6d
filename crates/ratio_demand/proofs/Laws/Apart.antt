-- k roundings, one after the other. `Apart k v e`, for a k of up to n = DETECTORS, says that v is e, but for a little more than k parts in
-- 2 ^ 24 of e: with u = 2 ^ 24, u * u * |v - e| <= k * (u + n) * e. The n is room for the second order, since each rounding but the first is of
-- a number that is off already. After n of them that is within OFF = n + 1 parts in 2 ^ 24 (`apart_off`), 9 of the eight. Nothing here is about floats.
-- Assumes nothing.
use Prim.Native.Nat.{ℕ, suc, ◌+◌, ◌*◌, ◌^◌, ◌≤◌, ◌<◌}
use native.Mathlib.Nat.{mul-le-mul_right}
use native.Mathlib.Omega.{arith}
use Rattle.ratio.specs.Eight.{DETECTORS}
use Rattle.ratio.proofs.Laws.Once.{U, Once}

abbrev UU : ℕ
UU = 2 ^ 48

abbrev pub Apart : ℕ → ℕ → ℕ → Type 0
Apart k v e = (UU * v ≤ UU * e + (U + DETECTORS) * (k * e)) × (UU * e ≤ UU * v + (U + DETECTORS) * (k * e))

pub apart_once : (v e : ℕ) → Once v e → Apart 1 v e
apart_once v e h = omega arith

pub apart_more : (k j v e : ℕ) → k ≤ j → Apart k v e → Apart j v e
apart_more k j v e l h = omega (arith, mul-le-mul_right e l)

pub apart_scale : (k v e c : ℕ) → Apart k v e → Apart k (v * c) (e * c)
apart_scale k v e c h = omega (arith, mul-le-mul_right c h.0, mul-le-mul_right c h.1)

pub apart_add : (k v e w g : ℕ) → Apart k v e → Apart k w g → Apart k (v + w) (e + g)
apart_add k v e w g h i = omega arith

-- what is rounded next is at most e and DETECTORS parts in 2 ^ 24 of it
next : (k v e : ℕ) → k < DETECTORS → Apart k v e → U * v ≤ (U + DETECTORS) * e
next k v e K h = omega (arith, mul-le-mul_right e K)

pub apart_round : (k v e w : ℕ) → k < DETECTORS → Apart k v e → Once w v → Apart (suc k) w e
apart_round k v e w K h o = let b = next k v e K h in (above b h.0 o.0, below b h.1 o.1)
  where
    above : U * v ≤ (U + DETECTORS) * e → UU * v ≤ UU * e + (U + DETECTORS) * (k * e) → U * w ≤ U * v + v → UU * w ≤ UU * e + (U + DETECTORS) * (suc k * e)
    above b h o = omega arith

    below : U * v ≤ (U + DETECTORS) * e → UU * e ≤ UU * v + (U + DETECTORS) * (k * e) → U * v ≤ U * w + v → UU * e ≤ UU * w + (U + DETECTORS) * (suc k * e)
    below b h o = omega arith

abbrev pub OFF : ℕ
OFF = DETECTORS + 1

abbrev pub Off : ℕ → ℕ → Type 0
Off v e = (U * v ≤ U * e + OFF * e) × (U * e ≤ U * v + OFF * e)

pub apart_off : (v e : ℕ) → Apart DETECTORS v e → Off v e
apart_off v e h = omega arith

pub apart_twice : (k v e : ℕ) → k ≤ DETECTORS → Apart k v e → v ≤ 2 * e
apart_twice k v e K h = omega (arith, mul-le-mul_right e K)
