-- The library's bytes of a number, lowest first, are those of a record: of 4 and of 8 (`word_bytes`, `wide_bytes`).
-- Assumes nothing.
use Prim.Native.Nat.{ℕ, ◌/◌, ◌^◌}
use mathlib.Core.Path.{◌≡◌, refl}
use native.Mathlib.Omega.{arith}
use Rattle.std.specs.Int.{w32, w64, to_le_bytes}
use Rattle.ring_meaning.specs.Record.{le_bytes}

module _ (v : ℕ) where
  pub word_bytes : to_le_bytes w32 v ≡ le_bytes 4 v
  unfolding le_bytes
  word_bytes =
      let b2 : v / 256 / 256 ≡ v / 256 ^ 2 = omega arith in
      let b3 : v / 256 / 256 / 256 ≡ v / 256 ^ 3 = omega arith in
      rw (b3, b2) refl

  pub wide_bytes : to_le_bytes w64 v ≡ le_bytes 8 v
  unfolding le_bytes
  wide_bytes =
      let b2 : v / 256 / 256 ≡ v / 256 ^ 2 = omega arith in
      let b3 : v / 256 / 256 / 256 ≡ v / 256 ^ 3 = omega arith in
      let b4 : v / 256 / 256 / 256 / 256 ≡ v / 256 ^ 4 = omega arith in
      let b5 : v / 256 / 256 / 256 / 256 / 256 ≡ v / 256 ^ 5 = omega arith in
      let b6 : v / 256 / 256 / 256 / 256 / 256 / 256 ≡ v / 256 ^ 6 = omega arith in
      let b7 : v / 256 / 256 / 256 / 256 / 256 / 256 / 256 ≡ v / 256 ^ 7 = omega arith in
      rw (b7, b6, b5, b4, b3, b2) refl
