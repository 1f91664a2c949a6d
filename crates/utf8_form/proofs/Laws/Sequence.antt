-- Bytes stored one after the other, where Table 3-6 gives them, are the encoding put there (`one_put`, `two_put`, `three_put`, `four_put`); how many
-- bytes an encoding has (`size_is`). Assumes nothing.
use Prim.Native.Nat.{ℕ, ◌+◌, ◌/◌, ◌%◌, ◌≤◌, ◌<◌}
use mathlib.Core.Path.{◌≡◌, ◌∙◌}
use mathlib.Core.List.{List, [], ◌∷◌, append_assoc}
use native.Mathlib.Numerals.{add-one, add-two, add-three}
use native.Mathlib.Omega.{arith}
use lib.ListN.{length, take, drop, set}
use lib.Seq.{sets, sets-eq}
use lib.Dec.{leb}
use borrow.Author.Tests.{le-leb, lt-leb}
use Rattle.base.specs.Numbers.{bump}
use Rattle.base.specs.Put.{put}
use Rattle.base.proofs.Laws.Tests.{split}
use Rattle.utf8_table.specs.Encoding.{encode}
use Rattle.utf8_table.proofs.Laws.Encoding.{encode_1, encode_2, encode_3, encode_4}

sets_put : (w : List ℕ) (i : ℕ) (s : List ℕ) → i + length s ≤ length w → sets w i s ≡ put w i s
unfolding put
sets_put w i s h = sets-eq s w i h ∙ append_assoc (take i w) s (drop (i + length s) w)

module _ (w : List ℕ) (at c : ℕ) where
  pub one_put : c < 0x80 → at + 1 ≤ length w → set w at c ≡ put w at (encode c)
  one_put h r = rw (encode_1 c h) (sets_put w at (c ∷ []) r)

  pub two_put : 0x80 ≤ c → c < 0x800 → at + 2 ≤ length w
      → set (set w at (0xC0 + c / 64)) (at + 1) (0x80 + c % 64) ≡ put w at (encode c)
  two_put h k r = rw (encode_2 c h k, add-one at) (sets_put w at ((0xC0 + c / 64) ∷ (0x80 + c % 64) ∷ []) r)

  pub three_put : 0x800 ≤ c → c < 0x10000 → at + 3 ≤ length w
      → set (set (set w at (0xE0 + c / 4096)) (at + 1) (0x80 + c / 64 % 64)) (at + 2) (0x80 + c % 64) ≡ put w at (encode c)
  three_put h k r =
      rw (encode_3 c h k, add-one at, add-two at)
      (sets_put w at ((0xE0 + c / 4096) ∷ (0x80 + c / 64 % 64) ∷ (0x80 + c % 64) ∷ []) r)

  pub four_put : 0x10000 ≤ c → at + 4 ≤ length w
      → set (set (set (set w at (0xF0 + c / 262144)) (at + 1) (0x80 + c / 4096 % 64)) (at + 2) (0x80 + c / 64 % 64)) (at + 3) (0x80 + c % 64)
      ≡ put w at (encode c)
  four_put h r =
      rw (encode_4 c h, add-one at, add-two at, add-three at)
      (sets_put w at ((0xF0 + c / 262144) ∷ (0x80 + c / 4096 % 64) ∷ (0x80 + c / 64 % 64) ∷ (0x80 + c % 64) ∷ []) r)

-- one byte, and one more from each row's first code point on
pub size_is : (c : ℕ) → 1 + bump (leb 0x80 c) + bump (leb 0x800 c) + bump (leb 0x10000 c) ≡ length (encode c)
size_is c =
    split c 0x80 (λ m. rw (encode_1 c m, lt-leb 0x80 c m, lt-leb 0x800 c (omega arith), lt-leb 0x10000 c (omega arith)))
    (λ l. split c 0x800 (λ m. rw (encode_2 c l m, le-leb 0x80 c l, lt-leb 0x800 c m, lt-leb 0x10000 c (omega arith)))
    (λ k. split c 0x10000 (λ m. rw (encode_3 c k m, le-leb 0x80 c l, le-leb 0x800 c k, lt-leb 0x10000 c m))
    (λ j. rw (encode_4 c j, le-leb 0x80 c l, le-leb 0x800 c k, le-leb 0x10000 c j))))
