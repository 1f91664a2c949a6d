-- What `lines_of` says of lines, for readers: no line holds 0A (`lines_unbroken`), and the lines, each with 0A behind it, are the bytes again,
-- but for the 0A that a last line may lack (`lines_back`).
-- Assumes nothing.
use Prim.Native.Nat.{ℕ}
use mathlib.Core.Path.{◌≡◌, refl}
use mathlib.Core.Bool.{Bool, true, false, cond, not, ◌&&◌}
use mathlib.Core.List.{List, [], ◌∷◌, ◌++◌}
use lib.Dec.{eqb}
use borrow.Author.Tests.{eqb-true}
use Rattle.base.specs.Limits.{NEWLINE}
use Rattle.base.proofs.Laws.Tests.{by_bool}
use Rattle.md_lines_meaning.specs.Lines.{with_byte, lines_of}
use Rattle.md_lines_meaning.specs.Inner.Lines.{line_of, rest_of}
use Rattle.md_lines_meaning.proofs.Laws.Lines.{ended_lines, more_lines, lines_cons}

-- no byte of a line is 0A, and none of any line
unfoldable pub unbroken : List ℕ → Bool
unbroken [] = true
unbroken (b ∷ bs) = not (eqb b NEWLINE) && unbroken bs

unfoldable pub all_unbroken : List (List ℕ) → Bool
all_unbroken [] = true
all_unbroken (l ∷ ls) = unbroken l && all_unbroken ls

joined_unbroken : (b : ℕ) (ls : List (List ℕ)) → eqb b NEWLINE ≡ false → all_unbroken ls ≡ true → all_unbroken (with_byte b ls) ≡ true
unfolding all_unbroken unbroken
joined_unbroken b [] e h = rw e
joined_unbroken b (l ∷ ls) e h = rw e h

pub lines_unbroken : (bytes : List ℕ) → all_unbroken (lines_of bytes) ≡ true
unfolding lines_of all_unbroken unbroken
lines_unbroken [] = refl
lines_unbroken (b ∷ bs) =
    by_bool (eqb b NEWLINE) (λ e. rw e (lines_unbroken bs)) (λ e. rw e (joined_unbroken b (lines_of bs) e (lines_unbroken bs)))

-- the lines, each with its 0A
unfoldable pub ended : List (List ℕ) → List ℕ
ended [] = []
ended (l ∷ ls) = l ++ NEWLINE ∷ ended ls

-- the bytes, with a 0A behind them where a line has begun that did not end: one has after each byte that is no 0A
unfoldable pub closed : Bool → List ℕ → List ℕ
closed begun [] = cond begun (NEWLINE ∷ []) []
closed begun (b ∷ bs) = b ∷ closed (not (eqb b NEWLINE)) bs

joined_ended : (b : ℕ) (l : List ℕ) (ls : List (List ℕ)) → ended (with_byte b (l ∷ ls)) ≡ b ∷ ended (l ∷ ls)
unfolding ended
joined_ended b l ls = refl

joined_back : (b c : ℕ) (cs : List ℕ) → ended (with_byte b (lines_of (c ∷ cs))) ≡ b ∷ ended (lines_of (c ∷ cs))
joined_back b c cs = rw (lines_cons c cs) (joined_ended b (line_of (c ∷ cs)) (lines_of (rest_of (c ∷ cs))))

begun_same : (c : ℕ) (cs : List ℕ) (begun : Bool) → closed begun (c ∷ cs) ≡ closed false (c ∷ cs)
unfolding closed
begun_same c cs begun = refl

module _ (b : ℕ) (bs : List ℕ) where
  ended_end : eqb b NEWLINE ≡ true → ended (lines_of (b ∷ bs)) ≡ b ∷ ended (lines_of bs)
  unfolding ended
  ended_end e = rw (ended_lines b bs e, eqb-true b NEWLINE e)

  closed_end : eqb b NEWLINE ≡ true → closed false (b ∷ bs) ≡ b ∷ closed false bs
  unfolding closed
  closed_end e = rw e

  closed_more : eqb b NEWLINE ≡ false → closed false (b ∷ bs) ≡ b ∷ closed true bs
  unfolding closed
  closed_more e = rw e

last_line : (b : ℕ) → eqb b NEWLINE ≡ false → ended (lines_of (b ∷ [])) ≡ closed false (b ∷ [])
unfolding ended lines_of closed
last_line b e = rw e

none : ended (lines_of []) ≡ closed false []
unfolding ended lines_of closed
none = refl

step : (b c : ℕ) (cs : List ℕ) → ended (lines_of (c ∷ cs)) ≡ closed false (c ∷ cs) → ended (lines_of (b ∷ c ∷ cs)) ≡ closed false (b ∷ c ∷ cs)
step b c cs h =
    by_bool (eqb b NEWLINE)
    (λ e. rw (ended_end b (c ∷ cs) e, closed_end b (c ∷ cs) e, h))
    (λ e. rw (more_lines b (c ∷ cs) e, joined_back b c cs, closed_more b (c ∷ cs) e, begun_same c cs true, h))

one : (b : ℕ) → ended (lines_of (b ∷ [])) ≡ closed false (b ∷ [])
one b = by_bool (eqb b NEWLINE) (λ e. rw (ended_end b [] e, closed_end b [] e, none)) (last_line b)

pub lines_back : (bytes : List ℕ) → ended (lines_of bytes) ≡ closed false bytes
lines_back [] = none
lines_back (b ∷ []) = one b
lines_back (b ∷ c ∷ cs) = step b c cs (lines_back (c ∷ cs))
