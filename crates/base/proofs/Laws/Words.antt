-- A word of four bytes and its halves.
-- Assumes nothing.
use Prim.Native.Nat.{ℕ, ◌+◌, ◌*◌, ◌/◌, ◌%◌, ◌<◌}
use mathlib.Core.List.{List}
use mathlib.Core.Path.{◌≡◌}
use native.Mathlib.Omega.{arith}
use lib.ListN.{get_or}
use Rattle.base.specs.Inner.LittleEndian.{Word}

pub word_of : (t : List ℕ) (at a b c d : ℕ) → a ≡ get_or t at 0 → b ≡ get_or t (at + 1) 0 → c ≡ get_or t (at + 2) 0 → d ≡ get_or t (at + 3) 0
    → a < 256 → b < 256 → Word t at (a + 256 * b + 65536 * c + 16777216 * d)
word_of t at a b c d ea eb ec ed ha hb =
    let e : at + 2 + 1 ≡ at + 3 = omega arith in
    record { is = rw (ea, eb, ec, ed); low = rw (← ea, ← eb) (halves_low a b c d ha hb); high = rw (e, ← ec, ← ed) (halves_high a b c d ha hb) }
  where
    halves_low : (a b c d : ℕ) → a < 256 → b < 256 → (a + 256 * b + 65536 * c + 16777216 * d) % 65536 ≡ a + 256 * b
    halves_low a b c d ha hb = omega arith

    halves_high : (a b c d : ℕ) → a < 256 → b < 256 → (a + 256 * b + 65536 * c + 16777216 * d) / 65536 ≡ c + 256 * d
    halves_high a b c d ha hb = omega arith
