-- Laws of Encoding: where scalar values lie, and Table 3-6 by the number of bytes. Assumes nothing.
use Prim.Native.Nat.{ℕ, ◌+◌, ◌/◌, ◌%◌, ◌≤◌, ◌<◌}
use mathlib.Core.Path.{◌≡◌}
use mathlib.Core.List.{List, [], ◌∷◌}
use mathlib.Core.Bool.{true, false, not}
use native.Mathlib.Omega.{arith}
use lib.ListN.{length}
use lib.Dec.{leb, ltb}
use borrow.Author.Tests.{lt-ltb, le-ltb, le-leb, leb-true, not-true}
use Rattle.base.specs.Limits.{LAST_POINT, SURROGATE_FIRST, SURROGATE_LAST}
use Rattle.base.specs.Tests.{within, scalar}
use Rattle.base.proofs.Laws.Tests.{by_test, and_l, and_r, within_yes, within_below, within_above}
use Rattle.utf8_table.specs.Encoding.{encode}

-- a scalar value lies before the surrogates or after them
pub scalar_low : (c : ℕ) → c < SURROGATE_FIRST → scalar c ≡ true
unfolding scalar
scalar_low c h = rw (le-leb c LAST_POINT (omega arith), within_below SURROGATE_FIRST SURROGATE_LAST c h)

pub scalar_high : (c : ℕ) → SURROGATE_LAST < c → c ≤ LAST_POINT → scalar c ≡ true
unfolding scalar
scalar_high c h k = rw (le-leb c LAST_POINT k, within_above SURROGATE_FIRST SURROGATE_LAST c (omega arith) h)

pub scalar_top : (c : ℕ) → scalar c ≡ true → c ≤ LAST_POINT
unfolding scalar
scalar_top c s = leb-true c LAST_POINT (and_l (leb c LAST_POINT) _ s)

pub scalar_apart : (c : ℕ) → scalar c ≡ true → SURROGATE_FIRST ≤ c → c ≤ SURROGATE_LAST → ⊥
unfolding scalar
scalar_apart c s h k =
    let e : within SURROGATE_FIRST SURROGATE_LAST c ≡ false =
    not-true _ (and_r (leb c LAST_POINT) (not (within SURROGATE_FIRST SURROGATE_LAST c)) s) in
    let f : within SURROGATE_FIRST SURROGATE_LAST c ≡ true = within_yes SURROGATE_FIRST SURROGATE_LAST c h k in
    let z : ◌≡◌ {A = ℕ} 0 1 = cc in
    omega arith

-- the encoding, by size
pub encode_1 : (c : ℕ) → c < 0x80 → encode c ≡ c ∷ []
unfolding encode
encode_1 c h = rw (lt-ltb c 0x80 h)

pub encode_2 : (c : ℕ) → 0x80 ≤ c → c < 0x800 → encode c ≡ (0xC0 + c / 64) ∷ (0x80 + c % 64) ∷ []
unfolding encode
encode_2 c h k = rw (le-ltb c 0x80 h, lt-ltb c 0x800 k)

pub encode_3 : (c : ℕ) → 0x800 ≤ c → c < 0x10000 → encode c ≡ (0xE0 + c / 4096) ∷ (0x80 + c / 64 % 64) ∷ (0x80 + c % 64) ∷ []
unfolding encode
encode_3 c h k = rw (le-ltb c 0x80 (omega arith), le-ltb c 0x800 h, lt-ltb c 0x10000 k)

pub encode_4 : (c : ℕ) → 0x10000 ≤ c
    → encode c ≡ (0xF0 + c / 262144) ∷ (0x80 + c / 4096 % 64) ∷ (0x80 + c / 64 % 64) ∷ (0x80 + c % 64) ∷ []
unfolding encode
encode_4 c h = rw (le-ltb c 0x80 (omega arith), le-ltb c 0x800 (omega arith), le-ltb c 0x10000 h)

-- an encoding has one to four bytes
pub encode_size : (c : ℕ) → (1 ≤ length (encode c)) × (length (encode c) ≤ 4)
unfolding encode
encode_size c =
    by_test P (ltb c 0x80) _ _ (λ e. (omega arith, omega arith)) (λ e. by_test P (ltb c 0x800) _ _ (λ f. (omega arith, omega arith))
    (λ f. by_test P (ltb c 0x10000) _ _ (λ g. (omega arith, omega arith)) (λ g. (omega arith, omega arith))))
  where
    P : List ℕ → Type 0
    P l = (1 ≤ length l) × (length l ≤ 4)
