-- A record has RECORD bytes (`record_length`); the numbers put into zeros, each in its place, are the record (`record_made`); and each can be read
-- back where it stands, the line's as two words (`record_back`).
-- Assumes nothing.
use Prim.Native.Nat.{ℕ, ◌+◌, ◌*◌, ◌/◌, ◌%◌, ◌<◌}
use mathlib.Core.Path.{◌≡◌, refl, ap, ◌∙◌}
use native.Mathlib.Nat.{div-add-mod', mod-eq_of_lt}
use native.Mathlib.Omega.{arith}
use lib.ListN.{length, drop, replicate}
use Rattle.base.specs.LittleEndian.{le32}
use Rattle.base.specs.Put.{put}
use Rattle.ring_meaning.specs.declared.Verdict.{Verdict}
use Rattle.ring_meaning.specs.Record.{RECORD, le_bytes, record_of}

pub record_length : (v : Verdict) → length (record_of v) ≡ RECORD
unfolding record_of le_bytes
record_length v = refl

pub record_made : (v : Verdict)
    → put (put (put (put (put (replicate RECORD 0) 0 (le_bytes 8 v.line)) 8 (le_bytes 4 v.bits)) 12 (le_bytes 4 v.fed)) 16 (le_bytes 4 v.stopped)) 20
    (le_bytes 4 v.refusal)
    ≡ record_of v
unfolding record_of le_bytes put
record_made v = refl

-- a number below 2^32 from its four bytes, and one below 2^64 from its eight
four : (v a b c r s t : ℕ) → a * 256 + r ≡ v → b * 256 + s ≡ a → c * 256 + t ≡ b → v < 4294967296
    → (c < 256) × (r + 256 * s + 65536 * t + 16777216 * c ≡ v)
four v a b c r s t e f g h = (omega arith, omega arith)

back_four : (v : ℕ) → v < 4294967296 → v % 256 + 256 * (v / 256 % 256) + 65536 * (v / 256 / 256 % 256) + 16777216 * (v / 256 / 256 / 256 % 256) ≡ v
back_four v h =
    let a = v / 256 in
    let b = a / 256 in
    let c = b / 256 in
    let p = four v a b c (v % 256) (a % 256) (b % 256) (div-add-mod' v 256) (div-add-mod' a 256) (div-add-mod' b 256) h in
    ap (λ (x : ℕ). v % 256 + 256 * (a % 256) + 65536 * (b % 256) + 16777216 * x) (mod-eq_of_lt p.0) ∙ p.1

-- the upper half of a number below 2^64
upper : (v a b c d r s t u : ℕ) → a * 256 + r ≡ v → b * 256 + s ≡ a → c * 256 + t ≡ b → d * 256 + u ≡ c → v < 18446744073709551616
    → (d < 4294967296) × (r + 256 * s + 65536 * t + 16777216 * u + 4294967296 * d ≡ v)
upper v a b c d r s t u e f g i h = (omega arith, omega arith)

back_eight : (v : ℕ) → v < 18446744073709551616
    → v % 256 + 256 * (v / 256 % 256) + 65536 * (v / 256 / 256 % 256) + 16777216 * (v / 256 / 256 / 256 % 256)
    + 4294967296
    * (v / 256 / 256 / 256 / 256 % 256 + 256 * (v / 256 / 256 / 256 / 256 / 256 % 256) + 65536 * (v / 256 / 256 / 256 / 256 / 256 / 256 % 256)
    + 16777216 * (v / 256 / 256 / 256 / 256 / 256 / 256 / 256 % 256))
    ≡ v
back_eight v h =
    let a = v / 256 in
    let b = a / 256 in
    let c = b / 256 in
    let d = c / 256 in
    let p = upper v a b c d (v % 256) (a % 256) (b % 256) (c % 256)
    (div-add-mod' v 256) (div-add-mod' a 256) (div-add-mod' b 256) (div-add-mod' c 256) h in
    ap (λ (x : ℕ). v % 256 + 256 * (a % 256) + 65536 * (b % 256) + 16777216 * (c % 256) + 4294967296 * x) (back_four d p.0) ∙ p.1

-- what a verdict's numbers are as u64 and u32
pub record Fit (v : Verdict) : Type 0 where
  pub line : v.line < 18446744073709551616
  pub bits : v.bits < 4294967296
  pub fed : v.fed < 4294967296
  pub stopped : v.stopped < 4294967296
  pub refusal : v.refusal < 4294967296

pub record Back (v : Verdict) : Type 0 where
  pub line : le32 (record_of v) 0 + 4294967296 * le32 (record_of v) 4 ≡ v.line
  pub bits : le32 (record_of v) 8 ≡ v.bits
  pub fed : le32 (record_of v) 12 ≡ v.fed
  pub stopped : le32 (record_of v) 16 ≡ v.stopped
  pub refusal : le32 (record_of v) 20 ≡ v.refusal
  pub zeros : drop 24 (record_of v) ≡ replicate 8 0

pub record_back : (v : Verdict) → Fit v → Back v
unfolding record_of le_bytes
record_back v f =
    record {
      line = back_eight v.line f.line;
      bits = back_four v.bits f.bits;
      fed = back_four v.fed f.fed;
      stopped = back_four v.stopped f.stopped;
      refusal = back_four v.refusal f.refusal;
      zeros = refl;
    }
