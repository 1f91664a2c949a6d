-- A number of at most 8 is that of its detector (`number_at`). Assumes nothing.
use Prim.Native.Nat.{ℕ, zero, suc, ◌≤◌}
use mathlib.Core.Path.{◌≡◌, refl}
use native.Mathlib.Omega.{arith}
use Rattle.ratio.specs.Eight.{DETECTORS}
use Rattle.md_reason_meaning.specs.Numbered.{detector_at, detector_number}

beyond : (d : ℕ) → suc (suc (suc (suc (suc (suc (suc (suc (suc d)))))))) ≤ DETECTORS → ⊥
beyond d h = omega arith

pub number_at : (d : ℕ) → d ≤ DETECTORS → detector_number (detector_at d) ≡ d
unfolding detector_number detector_at
number_at zero h = refl
number_at (suc zero) h = refl
number_at (suc (suc zero)) h = refl
number_at (suc (suc (suc zero))) h = refl
number_at (suc (suc (suc (suc zero)))) h = refl
number_at (suc (suc (suc (suc (suc zero))))) h = refl
number_at (suc (suc (suc (suc (suc (suc zero)))))) h = refl
number_at (suc (suc (suc (suc (suc (suc (suc zero))))))) h = refl
number_at (suc (suc (suc (suc (suc (suc (suc (suc zero)))))))) h = refl
number_at (suc (suc (suc (suc (suc (suc (suc (suc (suc d))))))))) h = absurd (beyond d h)
