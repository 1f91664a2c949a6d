-- The walk that puts the rows into the output: what holds when the bytes up to `from` are passed, and what one line more shows.
-- Assumes nothing.
use Prim.Native.Nat.{ℕ, ◌+◌, ◌-◌, ◌*◌, ◌≤◌, ◌<◌}
use mathlib.Core.Path.{◌≡◌, refl, sym, ap, ◌∙◌}
use mathlib.Core.List.{List, [], ◌++◌, append_assoc, append-nil}
use native.Mathlib.Omega.{arith}
use lib.Ieee.{Float}
use lib.ListN.{length, take, drop, length-append, take-append-drop}
use lib.Seq.{take-paste, drop-drop, take-length, length-take-le}
use Rattle.base.specs.Put.{put}
use Rattle.base.proofs.Laws.Put.{put_length, put_beyond, put_first, put_all}
use Rattle.md_lines_meaning.specs.Lines.{lines_of}
use Rattle.md_lines_meaning.specs.Inner.Lines.{LineEnd}
use Rattle.md_lines_meaning.proofs.Laws.Lines.{first_line, no_lines, lines_few}
use Rattle.md_lines_meaning.specs.Burst.{NUMBERS_PER_LINE, LONGEST_BURST, rows, row_of}
use Rattle.md_lines_meaning.proofs.Laws.Burst.{row_length, rows_none, rows_more, rows_length}

module _ (threshold : Float) (classes pairs : List ℕ) where
  -- the rows of the lines from `from` on
  abbrev pub rest : List ℕ → ℕ → List ℕ
  rest bytes from = rows threshold classes pairs (lines_of (drop from bytes))

  -- the rows of the lines up to `from` fill the first `at` places
  pub record Filling (bytes old out : List ℕ) (from at : ℕ) : Type 0 where
    pub same : length out ≡ length old
    pub room : at + length (rest bytes from) ≤ length old
    pub front : take at out ++ rest bytes from ≡ rest bytes 0
    pub back : drop at out ≡ drop at old

  module _ (bytes old : List ℕ) where
    pub filling_start : NUMBERS_PER_LINE * length (lines_of bytes) ≤ length old → Filling bytes old old 0 0
    filling_start h =
        record { same = refl; room = omega (arith, rows_length threshold classes pairs (lines_of bytes)); front = refl; back = refl }

    module _ (out : List ℕ) (from at : ℕ) (p : Filling bytes old out from at) where
      module _ (end : ℕ) (h : from < length bytes) (l : LineEnd bytes from end) where
        -- the row of the line, and the rows behind it
        split : rest bytes from ≡ row_of threshold classes pairs (take (end - from) (drop from bytes)) ++ rest bytes (end + 1)
        split = ap (rows threshold classes pairs) (first_line bytes from end h l) ∙ rows_more threshold classes pairs _ _

        split_length : length (rest bytes from) ≡ NUMBERS_PER_LINE + length (rest bytes (end + 1))
        split_length =
            ap length split
            ∙ length-append (row_of threshold classes pairs (take (end - from) (drop from bytes))) (rest bytes (end + 1))
            ∙ ap (λ (k : ℕ). k + length (rest bytes (end + 1))) (row_length _)

        pub filling_room : at + NUMBERS_PER_LINE ≤ length out
        filling_room = omega (arith, p.same, p.room, split_length)

        -- the place of the next row is no further than the last one's end
        pub filling_small : length bytes ≤ LONGEST_BURST → at + NUMBERS_PER_LINE ≤ NUMBERS_PER_LINE * LONGEST_BURST
        filling_small few =
            omega (
              arith,
              ap length p.front,
              length-append (take at out) (rest bytes from),
              length-take-le at out (omega (arith, p.same, p.room)),
              split_length,
              rows_length threshold classes pairs (lines_of bytes),
              lines_few bytes,
            )

        pub filling_more : (new : List ℕ)
            → new ≡ put out at (row_of threshold classes pairs (take (end - from) (drop from bytes)))
            → Filling bytes old new (end + 1) (at + NUMBERS_PER_LINE)
        filling_more new e =
            let r = row_of threshold classes pairs (take (end - from) (drop from bytes)) in
            let n : length r ≡ NUMBERS_PER_LINE = row_length _ in
            let a : at + length r ≤ length out = omega (arith, filling_room, n) in
            record {
              same = ap length e ∙ put_length out at r a ∙ p.same;
              room = omega (arith, p.room, split_length);
              front =
                  ap (λ (x : List ℕ). take (at + NUMBERS_PER_LINE) x ++ rest bytes (end + 1)) e
                  ∙ ap (λ (x : List ℕ). x ++ rest bytes (end + 1)) (upto r n a)
                  ∙ append_assoc (take at out) r (rest bytes (end + 1))
                  ∙ ap (λ (x : List ℕ). take at out ++ x) (sym split)
                  ∙ p.front;
              back =
                  ap (drop (at + NUMBERS_PER_LINE)) e
                  ∙ put_beyond out at r a (at + NUMBERS_PER_LINE) (omega (arith, n))
                  ∙ sym (drop-drop NUMBERS_PER_LINE at out)
                  ∙ ap (drop NUMBERS_PER_LINE) p.back
                  ∙ drop-drop NUMBERS_PER_LINE at old;
            }
          where
            upto : (r : List ℕ) → length r ≡ NUMBERS_PER_LINE → at + length r ≤ length out → take (at + NUMBERS_PER_LINE) (put out at r) ≡ take at out ++ r
            upto r n a = rw n at (ap (take (at + length r)) (put_all out at r) ∙ take-paste out at r (length r) (omega arith) (omega arith) ∙ ap (λ (x : List ℕ). take at out ++ x) (take-length r))

      pub filling_end : length bytes ≤ from → out ≡ put old 0 (rest bytes 0)
      filling_end h =
          let e : rest bytes from ≡ [] = ap (rows threshold classes pairs) (no_lines bytes from h) ∙ rows_none threshold classes pairs in
          let t : take at out ≡ rest bytes 0 =
          sym (append-nil (take at out)) ∙ ap (λ (x : List ℕ). take at out ++ x) (sym e) ∙ p.front in
          let l : at ≡ length (rest bytes 0) = sym (length-take-le at out (omega (arith, p.same, p.room))) ∙ ap length t in
          sym (take-append-drop at out)
          ∙ ap (λ (x : List ℕ). x ++ drop at out) t
          ∙ ap (λ (x : List ℕ). rest bytes 0 ++ x) p.back
          ∙ ap (λ (k : ℕ). rest bytes 0 ++ drop k old) l
          ∙ sym (put_first old (rest bytes 0))
