-- The text's two parts: `text_size`, `_numbers`, `_letters`, `_back` of an area into which both were put; `text-front`: only they matter for what
-- is read of them.
-- Assumes nothing.
use Prim.Native.Nat.{ℕ, zero, suc, ◌+◌, ◌≤◌}
use mathlib.Core.Path.{◌≡◌, sym, ap, ◌∙◌}
use mathlib.Core.List.{List, [], ◌∷◌}
use native.Mathlib.Nat.{suc-add, zero-add}
use native.Mathlib.Omega.{arith}
use lib.ListN.{length, take, drop}
use lib.Seq.{take-take, take-nil}
use Rattle.base.specs.Put.{put}
use Rattle.base.proofs.Laws.Put.{put_length, put_front, put_part, put_beyond, put_nothing}
use Rattle.cd_work.specs.Inner.Layout.{lacks_start}
use Rattle.cd_work.specs.Inner.Parts.{numbers_in, letters_in, with_text}

module _ (slots : ℕ) (w bs xs : List ℕ) (z : lacks_start slots ≤ length w) (a : length bs ≤ slots) (b : length xs ≤ slots) where
  front : length (put w 0 bs) ≡ length w
  front = put_length w 0 bs (omega arith)

  behind : slots + length xs ≤ length (put w 0 bs)
  behind = omega (arith, front)

  pub text_size : length (with_text slots w bs xs) ≡ length w
  unfolding with_text
  text_size = put_length (put w 0 bs) slots xs behind ∙ front

  pub text_numbers : numbers_in slots (length bs) (with_text slots w bs xs) ≡ bs
  unfolding with_text
  text_numbers = put_front (put w 0 bs) slots xs behind (length bs) a ∙ put_part w 0 bs (omega arith)

  pub text_letters : letters_in slots (length xs) (with_text slots w bs xs) ≡ xs
  unfolding with_text
  text_letters = put_part (put w 0 bs) slots xs behind

  pub text_back : (k : ℕ) → lacks_start slots ≤ k → drop k (with_text slots w bs xs) ≡ drop k w
  unfolding with_text
  text_back k h = put_beyond (put w 0 bs) slots xs behind k (omega arith) ∙ put_beyond w 0 bs (omega arith) k (omega arith)

pub text_nothing : (slots : ℕ) (w : List ℕ) → with_text slots w [] [] ≡ w
unfolding with_text
text_nothing slots w = put_nothing (put w 0 []) slots ∙ put_nothing w 0

drop_take : (s n : ℕ) (l : List ℕ) → drop s (take (s + n) l) ≡ take n (drop s l)
drop_take zero n l = rw zero-add
drop_take (suc s) n [] = rw (suc-add s n) (sym (take-nil n))
drop_take (suc s) n (x ∷ l) = rw (suc-add s n) (drop_take s n l)

module _ (slots i : ℕ) (v w : List ℕ) (h : i ≤ slots) (e : take (lacks_start slots) v ≡ take (lacks_start slots) w) where
  pub numbers_same : numbers_in slots i v ≡ numbers_in slots i w
  numbers_same = sym (take-take i (lacks_start slots) v (omega arith)) ∙ ap (take i) e ∙ take-take i (lacks_start slots) w (omega arith)

  pub letters_same : letters_in slots i v ≡ letters_in slots i w
  letters_same =
      let k : slots + slots ≡ lacks_start slots = omega arith in
      let f : take (slots + slots) v ≡ take (slots + slots) w = rw k e in
      sym (take-take i slots (drop slots v) h) ∙ ap (take i) (sym (drop_take slots slots v) ∙ ap (drop slots) f ∙ drop_take slots slots w)
      ∙ take-take i slots (drop slots w) h
