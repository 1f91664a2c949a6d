-- One law for each way in which `score_lines` returns (`over`, `faulty`, `no_room_lem`, `scored`); the row of each case of an answer
-- (`row_refused`, `row_told`, `row_room`); and that a line has NUMBERS-PER-LINE numbers (`row_length`, `rows_length`).
-- Assumes nothing.
use Rattle.std.specs.Prelude.{Result, Ok, Err}
use Prim.Native.Nat.{ℕ, ◌+◌, ◌*◌, ◌≤◌, ◌<◌}
use mathlib.Core.Path.{◌≡◌, refl, sym, ap, ◌∙◌}
use mathlib.Core.List.{List, [], ◌∷◌, ◌++◌}
use native.Mathlib.Omega.{arith}
use lib.Dec.{lit≤}
use lib.Ieee.{Float, of_bits, to_bits}
use lib.ListN.{length, replicate, set, length-append}
use borrow.Author.Tests.{lt-ltb, le-ltb}
use Rattle.base.specs.declared.refusals.Cause.{Cause}
use Rattle.base.specs.Causes.{refused_at, first_of}
use Rattle.base.specs.Counted.{count_unless}
use Rattle.base.specs.Numbers.{bump}
use Rattle.base.specs.Put.{put}
use Rattle.base.specs.Refusals.{ACCEPTED, number_of}
use Rattle.base.specs.declared.refusals.Cause.TheVariants.{TooLong, NoRoom}
use Rattle.base.specs.declared.Refusal.{Refusal}
use Rattle.base.proofs.Laws.Causes.{first_given, first_passed, first_front, first_past}
use Rattle.base.proofs.Laws.Counted.{counted_allowed, counted_refused, counted_at, after_allowed, after_refused}
use Rattle.ratio.specs.declared.EightShown.{EightShown}
use Rattle.ratio.specs.declared.Ratios.{Ratios}
use Rattle.ratio.specs.Eight.{DETECTORS, bits}
use Rattle.ratio.specs.Rounded.{bits_of}
use Rattle.ratio.specs.Shown.{shown_numbers, numbers_of}
use Rattle.md_meaning.specs.declared.Score.{Score}
use Rattle.md_meaning.specs.Inner.Lent.{of_lent, bad_lent}
use Rattle.md_meaning.specs.Values.{values}
use Rattle.md_utf8_meaning.specs.ScoreUtf8.{mess_ratio_utf8}
use Rattle.md_lines_meaning.specs.Lines.{lines_of}
use Rattle.md_lines_meaning.specs.Burst.{NUMBERS_PER_LINE, LONGEST_BURST, numbers, row_numbers, rows, row_of, many_bytes, no_room, causes, answer, out_after}

pub row_length : (a : Result Score Refusal) → length (row_numbers a) ≡ NUMBERS_PER_LINE
unfolding row_numbers numbers bits shown_numbers numbers_of
row_length a = refl

-- a row of zeros in which the numbers of a refusal were put, and those of a score
pub row_refused : (r : Refusal) → set (set (replicate NUMBERS_PER_LINE 0) 0 (number_of r.cause)) 1 r.place ≡ row_numbers (Err r)
unfolding row_numbers numbers values bits shown_numbers numbers_of of_bits to_bits
row_refused r = refl

pub row_told : (s : Score) (ratios : List ℕ) (stopped : ℕ) (counts : List ℕ)
    → ratios ≡ bits s.ratios
    → stopped ≡ bump s.stopped
    → counts ≡ shown_numbers s.counts
    → put
    (set
    (set
    (set (put (set (replicate NUMBERS_PER_LINE 0) 0 ACCEPTED) 2 ratios) (2 + DETECTORS) (bits_of s.sum))
    (3 + DETECTORS)
    s.fed)
    (4 + DETECTORS)
    stopped)
    (5 + DETECTORS)
    counts
    ≡ row_numbers (Ok s)
unfolding row_numbers numbers values bits shown_numbers numbers_of put
row_told s ratios stopped counts d e f = rw (d, e, f)

-- what stands before the counts leaves room for them
pub row_room : (r : Ratios) (e : EightShown) (ratios counts : List ℕ) (a b c : ℕ) → ratios ≡ bits r → counts ≡ shown_numbers e
    → 5 + DETECTORS + length counts
    ≤ length (set (set (set (put (set (replicate NUMBERS_PER_LINE 0) 0 ACCEPTED) 2 ratios) (2 + DETECTORS) a) (3 + DETECTORS) b) (4 + DETECTORS) c)
unfolding bits shown_numbers numbers_of put
row_room r e ratios counts a b c f g = rw (f, g) (lit≤ tt)

module _ (threshold : Float) (classes pairs : List ℕ) where
  pub rows_none : rows threshold classes pairs [] ≡ []
  unfolding rows
  rows_none = refl

  pub rows_more : (l : List ℕ) (ls : List (List ℕ)) → rows threshold classes pairs (l ∷ ls) ≡ row_of threshold classes pairs l ++ rows threshold classes pairs ls
  unfolding rows
  rows_more l ls = refl

  pub rows_length : (ls : List (List ℕ)) → length (rows threshold classes pairs ls) ≡ NUMBERS_PER_LINE * length ls
  rows_length [] = ap length rows_none
  rows_length (l ∷ ls) =
      ap length (rows_more l ls)
      ∙ length-append (row_of threshold classes pairs l) (rows threshold classes pairs ls)
      ∙ omega (arith, row_length (mess_ratio_utf8 l threshold classes pairs), rows_length ls)

-- ---- the answer is a, and the output is left as new
abbrev pub Ends : List ℕ → Float → List ℕ → List ℕ → List ℕ → Result ℕ Refusal → List ℕ → Type 0
Ends bytes threshold classes pairs out a new =
    (a ≡ answer bytes threshold classes pairs (length out)) × (new ≡ out_after bytes threshold classes pairs out)

module _ (bytes : List ℕ) (threshold : Float) (classes pairs out : List ℕ) where
  -- what a cause, or none, makes of both
  ends_at : (cause : Cause) (place : ℕ) → causes bytes threshold classes pairs (length out) ≡ refused_at cause place
      → Ends bytes threshold classes pairs out (refused_at cause place) out
  unfolding answer out_after refused_at
  ends_at cause place e = (counted_at _ _ cause place e, sym (after_refused _ out _ _ e))

  pub over : LONGEST_BURST < length bytes → Ends bytes threshold classes pairs out (refused_at TooLong 0) out
  unfolding causes many_bytes
  over h = ends_at TooLong 0 (first_given _ _ TooLong 0 (lt-ltb LONGEST_BURST (length bytes) h))

  module _ (h : length bytes ≤ LONGEST_BURST) where
    not_over : causes bytes threshold classes pairs (length out) ≡ first_of (of_lent threshold classes pairs ++ (no_room bytes (length out) ∷ []))
    unfolding causes many_bytes
    not_over = first_passed _ _ TooLong 0 (le-ltb LONGEST_BURST (length bytes) h)

    pub faulty : (r : Refusal) → bad_lent threshold classes pairs ≡ Err r → Ends bytes threshold classes pairs out (Err r) out
    unfolding answer out_after bad_lent
    faulty r e =
        let f = not_over ∙ first_front (of_lent threshold classes pairs) (no_room bytes (length out) ∷ []) r e in
        (sym (counted_refused _ _ r f), sym (after_refused _ out _ r f))

    module _ (e : bad_lent threshold classes pairs ≡ Ok tt) (lines : ℕ) (c : lines ≡ length (lines_of bytes)) where
      left_over : causes bytes threshold classes pairs (length out) ≡ first_of (no_room bytes (length out) ∷ [])
      unfolding bad_lent
      left_over = not_over ∙ first_past (of_lent threshold classes pairs) (no_room bytes (length out) ∷ []) e

      pub no_room_lem : length out < NUMBERS_PER_LINE * lines → Ends bytes threshold classes pairs out (refused_at NoRoom 0) out
      unfolding no_room
      no_room_lem k =
          ends_at NoRoom 0
          (left_over ∙ first_given [] _ NoRoom 0 (lt-ltb (length out) (NUMBERS_PER_LINE * length (lines_of bytes)) (omega arith)))

      pub scored : NUMBERS_PER_LINE * lines ≤ length out
          → Ends bytes threshold classes pairs out (Ok lines) (put out 0 (rows threshold classes pairs (lines_of bytes)))
      unfolding no_room answer out_after first_of
      scored k =
          let f = left_over ∙ first_passed [] _ NoRoom 0 (le-ltb (length out) (NUMBERS_PER_LINE * length (lines_of bytes)) (omega arith)) in
          (ap Ok c ∙ sym (counted_allowed _ _ f), sym (after_allowed _ out _ f))
