-- The loop that counts the bytes of a text: n bytes for the first i code points. Assumes nothing.
use Prim.Native.Nat.{ℕ, ◌+◌, ◌*◌, ◌≤◌, ◌<◌}
use mathlib.Core.Path.{◌≡◌, ap, ◌∙◌}
use mathlib.Core.List.{List, []}
use native.Mathlib.Omega.{arith}
use lib.ListN.{length, get_or, drop, length-append, drop_of_length-le}
use Rattle.utf8_table.specs.Encoding.{encode, encode_all}
use Rattle.utf8_form.specs.Inner.Size.{Size}
use Rattle.utf8_write_meaning.proofs.Laws.Encoded.{encoded_next}

pub record Counting (text : List ℕ) (n i : ℕ) : Type 0 where
  pub here : i ≤ length text
  pub few : n ≤ 4 * i
  pub counts : n + length (encode_all (drop i text)) ≡ length (encode_all text)

module _ (text : List ℕ) where
  pub counting_start : Counting text 0 0
  counting_start = record { here = omega arith; few = omega arith; counts = omega arith }

  pub counting_more : {n i s : ℕ} → Counting text n i → i < length text → Size (get_or text i 0) s → Counting text (n + s) (i + 1)
  counting_more {n} {i} {s} c h z =
      let l : length (encode_all (drop i text)) ≡ length (encode (get_or text i 0)) + length (encode_all (drop (i + 1) text)) =
      ap length (encoded_next text i h) ∙ length-append (encode (get_or text i 0)) (encode_all (drop (i + 1) text)) in
      record { here = omega arith; few = omega (arith, c.few, z.small); counts = omega (arith, c.counts, z.is) }

  pub counting_end : {n i : ℕ} → Counting text n i → length text ≤ i → n ≡ length (encode_all text)
  unfolding encode_all
  counting_end {n} {i} c h =
      let d : drop i text ≡ [] = drop_of_length-le text h in
      let l : length (encode_all (drop i text)) ≡ 0 = ap (λ (x : List ℕ). length (encode_all x)) d in
      omega (arith, c.counts)
