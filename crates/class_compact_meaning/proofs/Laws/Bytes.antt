-- Numbers and their bytes, in lists of bytes (`Bytes`): the same numbers are the same bytes, and a number of two bytes is written back as it was read.
-- Assumes nothing.
use Prim.Native.Nat.{ℕ, zero, suc, ◌+◌, ◌*◌, ◌/◌, ◌%◌, ◌<◌}
use mathlib.Core.Path.{◌≡◌, sym, ◌∙◌}
use mathlib.Core.List.{List, [], ◌∷◌}
use native.Mathlib.Nat.{add-zero}
use native.Mathlib.Omega.{arith}
use lib.ListN.{get_or, replicate}
use Rattle.base.specs.LittleEndian.{le16, le32}
use Rattle.ring_meaning.specs.Record.{le_bytes}
use Rattle.class_compact_meaning.specs.Form.{Bytes, bytes_from}
use Rattle.class_compact_meaning.specs.Inner.Form.{HALF}
use Rattle.class_compact_meaning.proofs.Laws.Form.{bytes_same, bytes_split}

four : (a b c d x y z w : ℕ) → a < 256 → b < 256 → c < 256 → d < 256 → x < 256 → y < 256 → z < 256 → w < 256
    → a + 256 * b + 65536 * c + 16777216 * d ≡ x + 256 * y + 65536 * z + 16777216 * w → (a ≡ x) × (b ≡ y) × (c ≡ z) × (d ≡ w)
four a b c d x y z w ha hb hc hd hx hy hz hw e = (omega arith, omega arith, omega arith, omega arith)

module _ (t u : List ℕ) (p : Bytes t) (q : Bytes u) where
  word_same : (a b : ℕ) → le32 t a ≡ le32 u b → (k : ℕ) → k < 4 → get_or t (a + k) 0 ≡ get_or u (b + k) 0
  word_same a b e k h = pick k h
    where
      all : (get_or t a 0 ≡ get_or u b 0) × (get_or t (a + 1) 0 ≡ get_or u (b + 1) 0) × (get_or t (a + 2) 0 ≡ get_or u (b + 2) 0) × (get_or t (a + 3) 0 ≡ get_or u (b + 3) 0)
      all =
          four (get_or t a 0) (get_or t (a + 1) 0) (get_or t (a + 2) 0) (get_or t (a + 3) 0) (get_or u b 0) (get_or u (b + 1) 0) (get_or u (b + 2) 0) (get_or u (b + 3) 0)
          (p a) (p (a + 1)) (p (a + 2)) (p (a + 3)) (q b) (q (b + 1)) (q (b + 2)) (q (b + 3)) e

      no : (k : ℕ) → suc (suc (suc (suc k))) < 4 → ⊥
      no k h = omega arith

      pick : (k : ℕ) → k < 4 → get_or t (a + k) 0 ≡ get_or u (b + k) 0
      pick zero h = rw (add-zero a, add-zero b) all.0
      pick (suc zero) h = all.1
      pick (suc (suc zero)) h = all.2
      pick (suc (suc (suc zero))) h = all.3
      pick (suc (suc (suc (suc k)))) h = absurd (no k h)

  -- two words
  pub words_same : (a b : ℕ) → le32 t a ≡ le32 u b → le32 t (a + 4) ≡ le32 u (b + 4) → bytes_from t a 8 ≡ bytes_from u b 8
  words_same a b e f =
      bytes_split t a 4 4
      ∙ rw (bytes_same t u a b 4 (word_same a b e), bytes_same t u (a + 4) (b + 4) 4 (word_same (a + 4) (b + 4) f)) (sym (bytes_split u b 4 4))

pub words_zero : (t : List ℕ) → Bytes t → (a : ℕ) → le32 t a ≡ 0 → le32 t (a + 4) ≡ 0 → bytes_from t a 8 ≡ replicate 8 0
unfolding bytes_from
words_zero t p a e f = words_same t [] p (λ k. omega arith) a 0 e f

pub half_zero : (t : List ℕ) (at : ℕ) → le16 t at ≡ 0 → bytes_from t at 2 ≡ 0 ∷ 0 ∷ []
unfolding bytes_from
half_zero t at e =
    let a : get_or t at 0 ≡ 0 = omega arith in
    let b : get_or t (at + 1) 0 ≡ 0 = omega arith in
    rw (a, b)

pub half_back : (t : List ℕ) → Bytes t → (at : ℕ) → le_bytes 2 (le16 t at) ≡ bytes_from t at 2
unfolding bytes_from le_bytes
half_back t p at = rw (low (get_or t at 0) (get_or t (at + 1) 0) (p at), high (get_or t at 0) (get_or t (at + 1) 0) (p at) (p (at + 1)))
  where
    low : (a b : ℕ) → a < 256 → (a + 256 * b) % 256 ≡ a
    low a b h = omega arith

    high : (a b : ℕ) → a < 256 → b < 256 → (a + 256 * b) / 256 % 256 ≡ b
    high a b h k = omega arith

-- a number of 16 bits from its two bytes
pub half_read : (v : ℕ) → v < HALF → v % 256 + 256 * (v / 256 % 256) ≡ v
half_read v h = omega arith
