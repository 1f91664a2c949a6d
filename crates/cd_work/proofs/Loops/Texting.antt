-- The text's two parts being filled, one slot after the other (`Texting`): the first i of the numbers bs and of the letters xs stand there. Its start,
-- its step and its end.
-- Assumes nothing.
use Prim.Native.Nat.{ℕ, ◌+◌, ◌≤◌, ◌<◌}
use mathlib.Core.Path.{◌≡◌, sym, ap, ◌∙◌}
use mathlib.Core.List.{List}
use native.Mathlib.Nat.{zero-add}
use native.Mathlib.Omega.{arith}
use lib.ListN.{length, get_or, set, take}
use lib.Seq.{length-take-le, take_all}
use Rattle.base.specs.Put.{put}
use Rattle.base.proofs.Laws.Put.{put_length, put_more, put_swap}
use Rattle.cd_work.specs.Inner.Layout.{letters_start, lacks_start}
use Rattle.cd_work.specs.Inner.Parts.{with_text}
use Rattle.cd_work.proofs.Laws.Text.{text_size, text_nothing}

module _ (slots : ℕ) (w bs xs : List ℕ) where
  pub record Texting (v : List ℕ) (i : ℕ) : Type 0 where
    pub room : lacks_start slots ≤ length w
    pub numbers : length bs ≡ slots
    pub letters : length xs ≡ slots
    pub below : i ≤ slots
    pub so_far : v ≡ with_text slots w (take i bs) (take i xs)

  pub texting_start : lacks_start slots ≤ length w → length bs ≡ slots → length xs ≡ slots → Texting w 0
  texting_start z a b = record { room = z; numbers = a; letters = b; below = omega arith; so_far = sym (text_nothing slots w) }

  module _ {v : List ℕ} {i : ℕ} (g : Texting v i) where
    front : (k : ℕ) → k ≤ slots → length (take k bs) ≡ k
    front k h = length-take-le k bs (omega (arith, g.numbers))

    behind : (k : ℕ) → k ≤ slots → length (take k xs) ≡ k
    behind k h = length-take-le k xs (omega (arith, g.letters))

    pub texting_size : length v ≡ length w
    texting_size =
        ap length g.so_far
        ∙ text_size slots w (take i bs) (take i xs) g.room (omega (arith, front i g.below, g.below)) (omega (arith, behind i g.below, g.below))

    pub texting_end : slots ≤ i → v ≡ with_text slots w bs xs
    texting_end h = rw (take_all i bs (omega (arith, g.numbers)), take_all i xs (omega (arith, g.letters))) at g.so_far

    module _ (h : i < slots) {start : ℕ} (s : start ≡ letters_start slots) where
      pub texting_inside : i < length v
      texting_inside = omega (arith, texting_size, g.room)

      pub texting_behind : start + i < length v
      texting_behind = omega (arith, s, texting_size, g.room)

      -- the number at i; the letters were put apart from it
      number_put : set (with_text slots w (take i bs) (take i xs)) i (get_or bs i 0) ≡ with_text slots w (take (i + 1) bs) (take i xs)
      unfolding with_text
      number_put =
          let u = put w slots (take i xs) in
          let y : length u ≡ length w = put_length w slots (take i xs) (omega (arith, behind i (omega arith), g.room)) in
          let turned : (k : ℕ) → k ≤ slots → put (put w 0 (take k bs)) slots (take i xs) ≡ put u 0 (take k bs) =
          λ k j. put_swap w 0 (take k bs) slots (take i xs) (omega (arith, front k j)) (omega (arith, behind i (omega arith), g.room)) 0 in
          ap (λ (l : List ℕ). set l i (get_or bs i 0)) (turned i (omega arith))
          ∙ (rw zero-add at (put_more u 0 bs i (omega (arith, y, g.numbers, g.room)) (omega (arith, g.numbers)) 0))
          ∙ sym (turned (i + 1) (omega arith))

      letter_put : set (with_text slots w (take (i + 1) bs) (take i xs)) (slots + i) (get_or xs i 0) ≡ with_text slots w (take (i + 1) bs) (take (i + 1) xs)
      unfolding with_text
      letter_put =
          let y : length (put w 0 (take (i + 1) bs)) ≡ length w = put_length w 0 (take (i + 1) bs) (omega (arith, front (i + 1) (omega arith), g.room)) in
          put_more (put w 0 (take (i + 1) bs)) slots xs i (omega (arith, y, g.letters, g.room)) (omega (arith, g.letters)) 0

      pub texting_more : {b x : ℕ} → b ≡ get_or bs i 0 → x ≡ get_or xs i 0 → Texting (set (set v i b) (start + i) x) (i + 1)
      texting_more e f =
          record {
            room = g.room;
            numbers = g.numbers;
            letters = g.letters;
            below = omega arith;
            so_far = rw (g.so_far, e, f, s, number_put) letter_put;
          }
