-- Table 3-7 leaves no scalar value out: the encoding of each, by Table 3-6, is a row that gives it back, whatever follows it
-- (`row_complete`). Assumes nothing.
use Prim.Native.Nat.{ℕ, ◌+◌, ◌*◌, ◌/◌, ◌%◌, ◌≤◌, ◌<◌}
use mathlib.Core.Path.{◌≡◌, refl, ap, ◌∙◌}
use mathlib.Core.List.{List, ◌++◌}
use mathlib.Core.Bool.{true, cond}
use native.Mathlib.Omega.{arith}
use lib.ListN.{length, get_or}
use lib.Dec.{eqb}
use borrow.Author.Tests.{le-leb, eqb-true}
use Rattle.base.specs.Limits.{LAST_POINT}
use Rattle.base.specs.Tests.{scalar}
use Rattle.base.proofs.Laws.Tests.{by_test, split, within_yes}
use Rattle.utf8_table.specs.Encoding.{encode}
use Rattle.utf8_table.specs.WellFormed.{Step, point_of_two, point_of_three, point_of_four, row}
use Rattle.utf8_table.specs.Inner.ByLead.{leads_two, leads_three, leads_four}
use Rattle.utf8_table.proofs.Laws.ByLead.{row_one, row_two, row_three, row_four}
use Rattle.utf8_table.proofs.Laws.Encoding.{scalar_top, scalar_apart, encode_1, encode_2, encode_3, encode_4}

-- the row of each scalar value's bytes, whatever follows them
abbrev pub got : ℕ → ℕ → Step
got n c = record { size = n; point = c }

got_2 : (c x y : ℕ) → 0x80 ≤ c → c < 0x800 → row (0xC0 + c / 64) (0x80 + c % 64) x y ≡ got 2 c
unfolding leads_two
got_2 c x y h k =
    let e : point_of_two (0xC0 + c / 64) (0x80 + c % 64) ≡ c = omega arith in
    row_two (0xC0 + c / 64) (0x80 + c % 64) x y (omega arith) (omega arith)
    ∙ rw (le-leb 0xC2 (0xC0 + c / 64) (omega arith), within_yes 0x80 0xBF (0x80 + c % 64) (omega arith) (omega arith)) (ap (got 2) e)

-- a bound that hangs on the first byte is kept where it is kept at that byte and elsewhere
above : (a k x y b : ℕ) → (a ≡ k → x ≤ b) → y ≤ b → cond (eqb a k) x y ≤ b
above a k x y b h l = by_test (λ (m : ℕ). m ≤ b) (eqb a k) x y (λ e. h (eqb-true a k e)) (λ e. l)

below : (a k x y b : ℕ) → (a ≡ k → b ≤ x) → b ≤ y → b ≤ cond (eqb a k) x y
below a k x y b h l = by_test (λ (m : ℕ). b ≤ m) (eqb a k) x y (λ e. h (eqb-true a k e)) (λ e. l)

got_3 : (c x : ℕ) → 0x800 ≤ c → c < 0x10000 → scalar c ≡ true
    → row (0xE0 + c / 4096) (0x80 + c / 64 % 64) (0x80 + c % 64) x ≡ got 3 c
unfolding leads_three
got_3 c x h k s =
    let a = 0xE0 + c / 4096 in
    let b = 0x80 + c / 64 % 64 in
    let e : point_of_three a b (0x80 + c % 64) ≡ c = omega arith in
    let p : c / 64 / 64 ≡ c / 4096 = omega arith in
    let lo : cond (eqb a 0xE0) 0xA0 0x80 ≤ b = above a 0xE0 0xA0 0x80 b (λ f. omega arith) (omega arith) in
    let hi : b ≤ cond (eqb a 0xED) 0x9F 0xBF = below a 0xED 0x9F 0xBF b (λ f. no_surrogate f) (omega arith) in
    row_three a b (0x80 + c % 64) x (omega arith) (omega arith)
    ∙ rw (
      within_yes (cond (eqb a 0xE0) 0xA0 0x80) (cond (eqb a 0xED) 0x9F 0xBF) b lo hi,
      within_yes 0x80 0xBF (0x80 + c % 64) (omega arith) (omega arith),
    )
    (ap (got 3) e)
  where
    no_surrogate : 0xE0 + c / 4096 ≡ 0xED → 0x80 + c / 64 % 64 ≤ 0x9F
    no_surrogate f =
        let p : c / 64 / 64 ≡ c / 4096 = omega arith in
        split (0x80 + c / 64 % 64) 0xA0 (λ m. omega arith) (λ m. absurd (scalar_apart c s (omega arith) (omega arith)))

-- six bits at a time make up the number
six : (n : ℕ) → (0x80 + n % 64) % 64 ≡ n % 64
six n = omega arith

digits : (c p q r : ℕ) → c / 64 ≡ p → p / 64 ≡ q → q / 64 ≡ r → r * 262144 + q % 64 * 4096 + p % 64 * 64 + c % 64 ≡ c
digits c p q r e f g = omega arith

value_4 : (c : ℕ) → c ≤ LAST_POINT
    → point_of_four (0xF0 + c / 262144) (0x80 + c / 4096 % 64) (0x80 + c / 64 % 64) (0x80 + c % 64) ≡ c
value_4 c k =
    let l : (0xF0 + c / 262144) % 8 ≡ c / 262144 = omega arith in
    let p : c / 64 / 64 ≡ c / 4096 = omega arith in
    let q : c / 4096 / 64 ≡ c / 262144 = omega arith in
    rw (l, six (c / 4096), six (c / 64), six c) (digits c (c / 64) (c / 4096) (c / 262144) refl p q)

got_4 : (c : ℕ) → 0x10000 ≤ c → c ≤ LAST_POINT
    → row (0xF0 + c / 262144) (0x80 + c / 4096 % 64) (0x80 + c / 64 % 64) (0x80 + c % 64) ≡ got 4 c
unfolding leads_four
got_4 c h k =
    let a = 0xF0 + c / 262144 in
    let b = 0x80 + c / 4096 % 64 in
    let lo : cond (eqb a 0xF0) 0x90 0x80 ≤ b = above a 0xF0 0x90 0x80 b (λ f. omega arith) (omega arith) in
    let hi : b ≤ cond (eqb a 0xF4) 0x8F 0xBF = below a 0xF4 0x8F 0xBF b (λ f. omega arith) (omega arith) in
    row_four a b (0x80 + c / 64 % 64) (0x80 + c % 64) (omega arith)
    ∙ rw (
      le-leb a 0xF4 (omega arith),
      within_yes (cond (eqb a 0xF0) 0x90 0x80) (cond (eqb a 0xF4) 0x8F 0xBF) b lo hi,
      within_yes 0x80 0xBF (0x80 + c / 64 % 64) (omega arith) (omega arith),
      within_yes 0x80 0xBF (0x80 + c % 64) (omega arith) (omega arith),
    )
    (ap (got 4) (value_4 c k))

abbrev pub row_of : List ℕ → Step
row_of bytes = row (get_or bytes 0 0) (get_or bytes 1 0) (get_or bytes 2 0) (get_or bytes 3 0)

pub row_complete : (c : ℕ) (rest : List ℕ) → scalar c ≡ true → row_of (encode c ++ rest) ≡ got (length (encode c)) c
row_complete c rest s =
    split c 0x80 (λ m. rw (encode_1 c m) (row_one c _ _ _ m))
    (λ l. split c 0x800 (λ m. rw (encode_2 c l m) (got_2 c _ _ l m))
    (λ l. split c 0x10000 (λ m. rw (encode_3 c l m) (got_3 c _ l m s))
    (λ l. rw (encode_4 c l) (got_4 c l (scalar_top c s)))))
