-- The fewest digits that hold a number, as the kit's `io::decimal` writes them, are the number in decimal (`written`), and a u32 has at
-- most ten (`few_digits`, `decimal_short`); a number below the m-th power of ten has at most m digits (`decimal_few`).
-- Assumes nothing.
use Prim.Native.Nat.{ℕ, zero, suc, ◌+◌, ◌-◌, ◌*◌, ◌/◌, ◌%◌, ◌^◌, ◌≤◌, ◌<◌}
use mathlib.Core.Path.{◌≡◌}
use mathlib.Core.List.{List, [], ◌∷◌}
use native.Mathlib.Nat.{pow-suc, one-le-pow, pow-le-pow_right}
use native.Mathlib.Omega.{arith}
use lib.Dec.{ltb}
use lib.ListN.{length, length-append}
use borrow.Author.Tests.{lt-ltb, le-ltb}
use Rattle.base.proofs.Laws.Tests.{split, by_test}
use Rattle.io.specs.Digits.{last_digits, hex_digit_ascii, IsDigitCount}
use Rattle.pieces.specs.Numerals.{CODE_0, MOST_DIGITS, decimal_in, decimal}

-- the kit's digit of a number below 10
digit_same : (d : ℕ) → d < 10 → hex_digit_ascii d ≡ CODE_0 + d
digit_same d h = rw (lt-ltb d 10 h)

none : (k : ℕ) → 1 ≤ k → k ≤ 0 → ⊥
none k a b = omega arith

fewest_digits : (most k n : ℕ) → IsDigitCount 10 1 n k → k ≤ most → last_digits 10 k n ≡ decimal_in most n
unfolding decimal_in
fewest_digits zero k n f h = absurd (none k f.0 h)
fewest_digits (suc most) zero n f h = absurd (none zero f.0 (omega arith))
fewest_digits (suc most) (suc zero) n f h =
    let l : n < 10 = f.1 in
    let e : n % 10 ≡ n = omega arith in
    rw (e, lt-ltb n 10 l)
fewest_digits (suc most) (suc (suc k)) n f h =
    let e : suc (suc k) - 1 ≡ suc k = omega arith in
    let p : 10 ^ suc k ≤ n = rw e at (f.2 (omega arith)) in
    let q : 10 ^ k * 10 ≤ n = rw pow-suc at p in
    let u : n < 10 ^ suc k * 10 = rw pow-suc at f.1 in
    let o : 1 ≤ 10 ^ k = one-le-pow k 10 (omega arith) in
    let z : suc k - 1 ≡ k = omega arith in
    let below : n / 10 < 10 ^ suc k = omega arith in
    let above : 10 ^ k ≤ n / 10 = omega arith in
    let rest = fewest_digits most (suc k) (n / 10) (omega arith, below, λ m. rw z above) (omega arith) in
    let d : n % 10 < 10 = omega arith in
    rw (le-ltb n 10 (omega arith), ← rest, digit_same (n % 10) d)

-- a u32 has at most ten digits
pub few_digits : (n k : ℕ) → n < 2 ^ 32 → IsDigitCount 10 1 n k → k ≤ MOST_DIGITS
few_digits n k h f =
    split k (MOST_DIGITS + 1) (λ l. omega arith)
    (λ l. let p : 10 ^ (k - 1) ≤ n = f.2 (omega arith) in
    let q : 10 ^ 10 ≤ 10 ^ (k - 1) = pow-le-pow_right (omega arith) {i = 10} {j = k - 1} (omega arith) in
    absurd (no p q))
  where
    no : 10 ^ (k - 1) ≤ n → 10 ^ 10 ≤ 10 ^ (k - 1) → ⊥
    no p q = omega arith

pub written : (n k : ℕ) → n < 2 ^ 32 → IsDigitCount 10 1 n k → last_digits 10 k n ≡ decimal n
unfolding decimal
written n k h f = fewest_digits MOST_DIGITS k n f (few_digits n k h f)

short : (most n : ℕ) → length (decimal_in most n) ≤ most
unfolding decimal_in
short zero n = omega arith
short (suc most) n =
    by_test (λ (l : List ℕ). length l ≤ suc most) (ltb n 10) _ _
    (λ e. omega arith)
    (λ e. omega (arith, short most (n / 10), length-append (decimal_in most (n / 10)) ((CODE_0 + n % 10) ∷ [])))

pub decimal_short : (n : ℕ) → length (decimal n) ≤ MOST_DIGITS
unfolding decimal
decimal_short n = short MOST_DIGITS n

-- a number below the m-th power of ten has at most m digits
below_few : (most m n : ℕ) → n < 10 ^ suc m → length (decimal_in most n) ≤ suc m
unfolding decimal_in
below_few zero m n h = omega arith
below_few (suc most) zero n h =
    let l : n < 10 = h in
    rw (lt-ltb n 10 l) (omega arith)
below_few (suc most) (suc m) n h =
    let u : n < 10 ^ suc m * 10 = rw pow-suc at h in
    by_test (λ (l : List ℕ). length l ≤ suc (suc m)) (ltb n 10) _ _
    (λ e. omega arith)
    (λ e. omega (arith, below_few most m (n / 10) (omega arith), length-append (decimal_in most (n / 10)) ((CODE_0 + n % 10) ∷ [])))

pub decimal_few : (m n : ℕ) → n < 10 ^ suc m → length (decimal n) ≤ suc m
unfolding decimal
decimal_few m n h = below_few MOST_DIGITS m n h
