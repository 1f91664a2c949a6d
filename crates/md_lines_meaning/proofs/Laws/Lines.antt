-- Laws of Lines for a walk from the front: the first line ends at the first 0A, or at the end of the bytes (`LineEnd`), and the other lines
-- are those of the bytes behind it (`first_line`). There are no more lines than bytes (`lines_few`).
-- Assumes nothing.
use Prim.Native.Nat.{ℕ, zero, suc, ◌+◌, ◌-◌, ◌≤◌, ◌<◌}
use mathlib.Core.Path.{◌≡◌, refl, sym, ap, ◌∙◌}
use mathlib.Core.Bool.{true, false}
use mathlib.Core.List.{List, [], ◌∷◌, ◌++◌, append_assoc, append-nil}
use native.Mathlib.Numerals.{add-one}
use native.Mathlib.Omega.{arith}
use lib.Dec.{eqb}
use lib.ListN.{length, take, drop, get_or, length-drop, drop_of_length-le}
use lib.Seq.{drop-cons, take-suc, get_or-drop}
use borrow.Author.Tests.{eq-eqb, ne_eqb, eqb-false, not-true}
use Rattle.base.specs.Limits.{NEWLINE}
use Rattle.base.proofs.Laws.Tests.{by_bool, and_l, and_r}
use Rattle.md_lines_meaning.specs.Lines.{with_byte, lines_of}
use Rattle.md_lines_meaning.specs.Inner.Lines.{line_of, rest_of, Passing, LineEnd, no_end, no_end_on}

module _ (b : ℕ) (bs : List ℕ) (e : eqb b NEWLINE ≡ true) where
  pub ended_lines : lines_of (b ∷ bs) ≡ [] ∷ lines_of bs
  unfolding lines_of
  ended_lines = rw e

  ended_line : line_of (b ∷ bs) ≡ []
  unfolding line_of
  ended_line = rw e

  ended_rest : rest_of (b ∷ bs) ≡ bs
  unfolding rest_of
  ended_rest = rw e

module _ (b : ℕ) (bs : List ℕ) (e : eqb b NEWLINE ≡ false) where
  pub more_lines : lines_of (b ∷ bs) ≡ with_byte b (lines_of bs)
  unfolding lines_of
  more_lines = rw e

  more_line : line_of (b ∷ bs) ≡ b ∷ line_of bs
  unfolding line_of
  more_line = rw e

  more_rest : rest_of (b ∷ bs) ≡ rest_of bs
  unfolding rest_of
  more_rest = rw e

pub lines_none : lines_of [] ≡ []
unfolding lines_of
lines_none = refl

line_none : line_of [] ≡ []
unfolding line_of
line_none = refl

rest_none : rest_of [] ≡ []
unfolding rest_of
rest_none = refl

pub lines_cons : (b : ℕ) (bs : List ℕ) → lines_of (b ∷ bs) ≡ line_of (b ∷ bs) ∷ lines_of (rest_of (b ∷ bs))
lines_cons b [] =
    by_bool (eqb b NEWLINE)
    (λ e. rw (ended_lines b [] e, ended_line b [] e, ended_rest b [] e))
    (λ e. rw (more_lines b [] e, more_line b [] e, more_rest b [] e, line_none, rest_none, lines_none))
lines_cons b (c ∷ cs) =
    by_bool (eqb b NEWLINE)
    (λ e. rw (ended_lines b (c ∷ cs) e, ended_line b (c ∷ cs) e, ended_rest b (c ∷ cs) e))
    (λ e. rw (more_lines b (c ∷ cs) e, more_line b (c ∷ cs) e, more_rest b (c ∷ cs) e, lines_cons c cs))

-- a line takes a byte or more
joined_few : (b n : ℕ) (ls : List (List ℕ)) → length ls ≤ n → length (with_byte b ls) ≤ n + 1
joined_few b n [] h = omega arith
joined_few b n (l ∷ ls) h = omega arith

pub lines_few : (bytes : List ℕ) → length (lines_of bytes) ≤ length bytes
lines_few [] = rw lines_none (omega arith)
lines_few (b ∷ bs) =
    by_bool (eqb b NEWLINE)
    (λ e. rw (ended_lines b bs e) (omega (arith, lines_few bs)))
    (λ e. rw (more_lines b bs e) (omega (arith, joined_few b (length bs) (lines_of bs) (lines_few bs))))

-- a number of lines that was counted is as small as the bytes are few
pub lines_below : (bytes : List ℕ) (n most : ℕ) → n ≡ length (lines_of bytes) → length bytes ≤ most → n ≤ most
lines_below bytes n most e h = omega (arith, lines_few bytes)

pub no_lines : (bytes : List ℕ) (i : ℕ) → length bytes ≤ i → lines_of (drop i bytes) ≡ []
no_lines bytes i h = ap lines_of (drop_of_length-le bytes h) ∙ lines_none

module _ (bytes : List ℕ) (from end : ℕ) (h : from < length bytes) (l : LineEnd bytes from end) where
  pub first_line : lines_of (drop from bytes) ≡ take (end - from) (drop from bytes) ∷ lines_of (drop (end + 1) bytes)
  first_line =
      let e = drop-cons bytes from 0 h in
      let s : lines_of (drop from bytes) ≡ line_of (drop from bytes) ∷ lines_of (rest_of (drop from bytes)) =
      ap lines_of e ∙ lines_cons (get_or bytes from 0) (drop (suc from) bytes) ∙ ap (λ (x : List ℕ). line_of x ∷ lines_of (rest_of x)) (sym e) in
      s ∙ rw (l.line, l.rest)

module _ (bytes : List ℕ) (from : ℕ) where
  pub passing_start : from ≤ length bytes → Passing bytes from from
  passing_start h =
      let e : from - from ≡ 0 = omega arith in
      record { begins = omega arith; inside = h; line = rw e; rest = refl }

  module _ (j : ℕ) (p : Passing bytes from j) where
    -- the byte at j, and what stands behind it
    at_j : j < length bytes → drop j bytes ≡ get_or bytes j 0 ∷ drop (j + 1) bytes
    at_j h = drop-cons bytes j 0 h ∙ ap (λ (n : ℕ). get_or bytes j 0 ∷ drop n bytes) (sym (add-one j))

    pub passing_more : j < length bytes → (get_or bytes j 0 ≡ NEWLINE → ⊥) → Passing bytes from (j + 1)
    passing_more h n =
        let k = j - from in
        let e = ne_eqb (get_or bytes j 0) NEWLINE n in
        let a : from + k ≡ j = omega (arith, p.begins) in
        let s : j + 1 - from ≡ suc k = omega (arith, p.begins) in
        let t : take (suc k) (drop from bytes) ≡ take k (drop from bytes) ++ (get_or bytes j 0 ∷ []) =
        take-suc (drop from bytes) k 0 (simp length-drop (omega arith)) ∙ ap (λ (b : ℕ). take k (drop from bytes) ++ (b ∷ [])) (get_or-drop from bytes k 0 ∙ ap (λ (m : ℕ). get_or bytes m 0) a) in
        record {
          begins = omega (arith, p.begins);
          inside = omega arith;
          line =
              p.line
              ∙ ap (λ (x : List ℕ). take k (drop from bytes) ++ line_of x) (at_j h)
              ∙ ap (λ (x : List ℕ). take k (drop from bytes) ++ x) (more_line (get_or bytes j 0) (drop (j + 1) bytes) e)
              ∙ sym (append_assoc (take k (drop from bytes)) (get_or bytes j 0 ∷ []) (line_of (drop (j + 1) bytes)))
              ∙ ap (λ (x : List ℕ). x ++ line_of (drop (j + 1) bytes)) (sym t)
              ∙ ap (λ (m : ℕ). take m (drop from bytes) ++ line_of (drop (j + 1) bytes)) (sym s);
          rest = p.rest ∙ ap rest_of (at_j h) ∙ more_rest (get_or bytes j 0) (drop (j + 1) bytes) e;
        }

    pub passing_hit : j < length bytes → get_or bytes j 0 ≡ NEWLINE → LineEnd bytes from j
    passing_hit h n =
        let e = eq-eqb (get_or bytes j 0) NEWLINE n in
        record {
          begins = p.begins;
          inside = p.inside;
          line =
              p.line
              ∙ ap (λ (x : List ℕ). take (j - from) (drop from bytes) ++ x)
              (ap line_of (at_j h) ∙ ended_line (get_or bytes j 0) (drop (j + 1) bytes) e)
              ∙ append-nil (take (j - from) (drop from bytes));
          rest = p.rest ∙ ap rest_of (at_j h) ∙ ended_rest (get_or bytes j 0) (drop (j + 1) bytes) e;
        }

    pub passing_end : length bytes ≤ j → LineEnd bytes from j
    passing_end h =
        let e = drop_of_length-le bytes {i = j} h in
        let m : length bytes ≤ j + 1 = omega arith in
        record {
          begins = p.begins;
          inside = p.inside;
          line =
              p.line
              ∙ ap (λ (x : List ℕ). take (j - from) (drop from bytes) ++ x) (ap line_of e ∙ line_none)
              ∙ append-nil (take (j - from) (drop from bytes));
          rest = p.rest ∙ ap rest_of e ∙ rest_none ∙ sym (drop_of_length-le bytes {i = j + 1} m);
        }

-- a byte that was told to be no 0A
told : (bytes : List ℕ) (j : ℕ) → no_end bytes j ≡ true → get_or bytes j 0 ≡ NEWLINE → ⊥
told bytes j t = eqb-false (get_or bytes j 0) NEWLINE (not-true _ t)

-- the bytes from j on that were tested are passed
pub passing_on : (bytes : List ℕ) (from j k : ℕ) → Passing bytes from j → j + suc k ≤ length bytes → no_end_on bytes j k ≡ true
    → Passing bytes from (j + suc k)
unfolding no_end_on
passing_on bytes from j zero p h t =
    let e : j + 1 ≡ j + suc zero = omega arith in
    rw e at (passing_more bytes from j p (omega arith) (told bytes j t))
passing_on bytes from j (suc k) p h t =
    let q = passing_on bytes from j k p (omega arith) (and_l (no_end_on bytes j k) (no_end bytes (j + suc k)) t) in
    let e : j + suc k + 1 ≡ j + suc (suc k) = omega arith in
    rw e at (passing_more bytes from (j + suc k) q (omega arith) (told bytes (j + suc k) (and_r (no_end_on bytes j k) (no_end bytes (j + suc k)) t)))
