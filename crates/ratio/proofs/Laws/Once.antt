-- One rounding in whole numbers. `Once w v`: w is v, but for one part in 2 ^ 24 of v. `closest_half`: the nearest whole number is off by
-- half at most. `half_once`: so it is off by one part in 2 ^ 24 where the number is 2 ^ 23 at least. Nothing here is about floats.
-- Assumes nothing.
use Prim.Native.Nat.{ℕ, ◌+◌, ◌*◌, ◌/◌, ◌%◌, ◌^◌, ◌≤◌, ◌<◌, compare, Ordering}
use mathlib.Core.Path.{◌≡◌, subst}
use mathlib.Core.Bool.{not}
use native.Mathlib.Nat.{mul-le-mul_right, le_of_mul-le-mul_right, div-add-mod', mod-lt}
use native.Mathlib.Omega.{arith}
use lib.Dec.{T, is_le, compare_is_eq, eqb, leb→le, nleb→lt, eqb→eq, eqb_refl}
use lib.Arith.{lt_of_le-ne}
use lib.Ieee.{nearest}
use lib.Ieee.Nearest.{closest}

abbrev pub U : ℕ
U = 2 ^ 24

abbrev pub Once : ℕ → ℕ → Type 0
Once w v = (U * w ≤ U * v + v) × (U * v ≤ U * w + v)

pub once_scale : (w v c : ℕ) → Once w v → Once (w * c) (v * c)
once_scale w v c h = omega (arith, mul-le-mul_right c h.0, mul-le-mul_right c h.1)

pub once_cancel : (w v c : ℕ) → 0 < c → Once (w * c) (v * c) → Once w v
once_cancel w v c C h = (le_of_mul-le-mul_right {k = c} (omega arith) C, le_of_mul-le-mul_right {k = c} (omega arith) C)

-- what a comparison of two numbers says of them
abbrev Compared : Ordering → ℕ → ℕ → Type 0
Compared Ordering.lt a b = a < b
Compared Ordering.eq a b = a ≡ b
Compared Ordering.gt a b = b < a

compared : (a b : ℕ) → Compared (compare a b) a b
compared a b = go (compare a b) (leb→le a b) (nleb→lt a b) (eqb→eq a b) (λ (e : a ≡ b). subst (λ (x : ℕ). T (eqb a x)) e (eqb_refl a))
  where
    go : (o : Ordering) → (T (is_le o) → a ≤ b) → (T (not (is_le o)) → b < a) → (T (compare_is_eq o) → a ≡ b) → (a ≡ b → T (compare_is_eq o)) → Compared o a b
    go Ordering.lt h k e n = lt_of_le-ne (h tt) n
    go Ordering.eq h k e n = e tt
    go Ordering.gt h k e n = k tt

-- q times u is n, but for half of u
abbrev pub Half : ℕ → ℕ → ℕ → Type 0
Half q n u = (2 * (q * u) ≤ 2 * n + u) × (2 * n ≤ 2 * (q * u) + u)

bit : (q : ℕ) → q % 2 ≤ 1
bit q = omega arith

nearest_half : (q r u : ℕ) (o : Ordering) → r < u → Compared o (r * 2) u → Half (nearest q o) (q * u + r) u
nearest_half q r u Ordering.lt l h = omega arith
nearest_half q r u Ordering.eq l h = omega (arith, mul-le-mul_right u (bit q))
nearest_half q r u Ordering.gt l h = omega arith

pub closest_half : (n u : ℕ) → 0 < u → Half (closest n u) n u
closest_half n u P =
    subst (λ (z : ℕ). Half (closest n u) z u) (div-add-mod' n u)
    (nearest_half (n / u) (n % u) u (compare (n % u * 2) u) (mod-lt n P) (compared (n % u * 2) u))

-- the nearest to a whole number is that number
pub half_whole : (q w n u : ℕ) → 0 < u → n ≡ w * u → Half q n u → q ≡ w
half_whole q w n u P e h =
    let a : 2 * q ≤ 2 * w + 1 = le_of_mul-le-mul_right {k = u} (omega arith) P in
    let b : 2 * w ≤ 2 * q + 1 = le_of_mul-le-mul_right {k = u} (omega arith) P in
    omega arith

pub half_once : (q n u : ℕ) → 2 ^ 23 * u ≤ n → Half q n u → Once (q * u) n
half_once q n u h k = omega arith
