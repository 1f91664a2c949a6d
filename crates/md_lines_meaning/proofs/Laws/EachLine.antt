-- What a call of many lines answers, line by line: it refuses exactly for its own causes (`faultless_lines`, `lines_faultless`); where it does not, the
-- numbers of the line k stand in its row of the output (`row_at`, `row_scored`), and where they are those of a score, demand 3 holds of it, whole
-- (`demand_three_lines`), and so do 01's bounds of the ratios (`lines_at_most`). A threshold that such a call takes is finite; that it is an f32
-- is what the call's signature says of it (`fits`).
-- Assumes nothing.
use Rattle.std.specs.Prelude.{Ok}
use Prim.Native.Nat.{ℕ, zero, suc, ◌+◌, ◌*◌, ◌≤◌, ◌<◌}
use mathlib.Core.Path.{◌≡◌, refl, sym, ap, ◌∙◌}
use mathlib.Core.Bool.{true, not}
use mathlib.Core.List.{List, [], ◌∷◌, ◌++◌, append_assoc}
use native.Mathlib.Nat.{le_of_suc-le-suc, not-suc-le-zero}
use native.Mathlib.Omega.{arith}
use lib.Ieee.{Float, binary32, fits}
use lib.ListN.{length, get_or, take, drop}
use lib.Seq.{take_at, drop-append-add}
use borrow.Author.Tests.{ltb-false, le-ltb, not-false}
use Rattle.base.specs.Causes.{first_of}
use Rattle.base.specs.declared.refusals.Cause.TheVariants.{TooLong, NoRoom, NotFinite}
use Rattle.base.proofs.Laws.Causes.{first_free, free_first, given_free, free_given}
use Rattle.base.proofs.Laws.Counted.{counted_allowed, count_allowed, count_is, after_allowed}
use Rattle.base.proofs.Laws.Put.{put_first}
use Rattle.classes.specs.Check.{bad_classes}
use Rattle.classes.specs.Inner.Tables.{Tables}
use Rattle.classes.specs.Pairs.{bad_pairs}
use Rattle.classes.proofs.Laws.Tables.{free_tables, tables_free}
use Rattle.ratio.specs.Finite.{is_finite, not_finite, Finite}
use Rattle.utf8_meaning.specs.Text.{text_of}
use Rattle.md_meaning.specs.declared.Score.{Score}
use Rattle.md_meaning.specs.DemandThree.{Certain}
use Rattle.md_meaning.proofs.Laws.Plain.{Bounded}
use Rattle.md_utf8_meaning.specs.ScoreUtf8.{mess_ratio_utf8}
use Rattle.md_utf8_meaning.proofs.Laws.Accepted.{demand_three_utf8, utf8_at_most}
use Rattle.md_lines_meaning.specs.Lines.{lines_of}
use Rattle.md_lines_meaning.specs.Burst.{NUMBERS_PER_LINE, LONGEST_BURST, row_numbers, rows, row_of, many_bytes, no_room, causes, answer, out_after}
use Rattle.md_lines_meaning.proofs.Laws.Burst.{row_length, rows_more}

-- none of the causes of a call of many lines: 1, 4, 5, 7, 3
pub record Faultless (bytes : List ℕ) (threshold : Float) (classes pairs : List ℕ) (room : ℕ) : Type 0 where
  pub short : length bytes ≤ LONGEST_BURST
  pub finite : is_finite threshold ≡ true
  pub tables : Tables classes pairs
  pub enough : NUMBERS_PER_LINE * length (lines_of bytes) ≤ room

module _ (bytes : List ℕ) (threshold : Float) (classes pairs : List ℕ) (room : ℕ) where
  pub faultless_free : Faultless bytes threshold classes pairs room → causes bytes threshold classes pairs room ≡ Ok tt
  unfolding causes many_bytes not_finite no_room first_of
  faultless_free f =
      let t = tables_free classes pairs f.tables in
      free_first _ (not_finite threshold ∷ bad_classes classes ∷ bad_pairs pairs ∷ no_room bytes room ∷ [])
      (free_given _ TooLong 0 (le-ltb LONGEST_BURST (length bytes) f.short))
      (free_first _ (bad_classes classes ∷ bad_pairs pairs ∷ no_room bytes room ∷ []) (free_given _ NotFinite 0 (ap not f.finite))
      (free_first _ (bad_pairs pairs ∷ no_room bytes room ∷ []) t.0
      (free_first _ (no_room bytes room ∷ []) t.1
      (free_first _ [] (free_given _ NoRoom 0 (le-ltb room (NUMBERS_PER_LINE * length (lines_of bytes)) f.enough)) refl))))

  pub free_faultless : causes bytes threshold classes pairs room ≡ Ok tt → Faultless bytes threshold classes pairs room
  unfolding causes many_bytes not_finite no_room
  free_faultless e =
      let a = first_free (many_bytes bytes) _ e in
      let b = first_free (not_finite threshold) _ a.1 in
      let c = first_free (bad_classes classes) _ b.1 in
      let d = first_free (bad_pairs pairs) _ c.1 in
      let f = first_free (no_room bytes room) _ d.1 in
      record {
        short = ltb-false LONGEST_BURST (length bytes) (given_free _ TooLong 0 a.0);
        finite = not-false (is_finite threshold) (given_free _ NotFinite 0 b.0);
        tables = free_tables classes pairs c.0 d.0;
        enough = ltb-false room (NUMBERS_PER_LINE * length (lines_of bytes)) (given_free _ NoRoom 0 f.0);
      }

  -- no cause, no refusal
  pub faultless_lines : Faultless bytes threshold classes pairs room → answer bytes threshold classes pairs room ≡ Ok (length (lines_of bytes))
  unfolding answer
  faultless_lines f = counted_allowed _ _ (faultless_free f)

  -- no refusal, no cause
  pub lines_faultless : (n : ℕ) → answer bytes threshold classes pairs room ≡ Ok n → Faultless bytes threshold classes pairs room × (n ≡ length (lines_of bytes))
  unfolding answer
  lines_faultless n e = (free_faultless (count_allowed _ _ _ e), count_is _ _ _ e)

-- ---- the row of the line k
module _ (threshold : Float) (classes pairs : List ℕ) where
  row_in : (ls : List (List ℕ)) (k : ℕ) (rest : List ℕ) → k < length ls
      → take NUMBERS_PER_LINE (drop (NUMBERS_PER_LINE * k) (rows threshold classes pairs ls ++ rest)) ≡ row_of threshold classes pairs (get_or ls k [])
  row_in [] k rest h = absurd (not-suc-le-zero h)
  row_in (l ∷ ls) zero rest h =
      rw (rows_more threshold classes pairs l ls)
      (rw (append_assoc (row_of threshold classes pairs l) (rows threshold classes pairs ls) rest)
      (take_at (row_of threshold classes pairs l) (rows threshold classes pairs ls ++ rest) NUMBERS_PER_LINE (row_length (mess_ratio_utf8 l threshold classes pairs))))
  row_in (l ∷ ls) (suc k) rest h =
      let row : List ℕ = row_of threshold classes pairs l in
      let n : NUMBERS_PER_LINE * suc k ≡ length row + NUMBERS_PER_LINE * k
      = omega (arith, row_length (mess_ratio_utf8 l threshold classes pairs)) in
      rw (rows_more threshold classes pairs l ls)
      (rw (append_assoc row (rows threshold classes pairs ls) rest)
      (rw n
      (rw (drop-append-add row (rows threshold classes pairs ls ++ rest) (NUMBERS_PER_LINE * k))
      (row_in ls k rest (le_of_suc-le-suc h)))))

module _ (bytes : List ℕ) (threshold : Float) (classes pairs out : List ℕ) (n : ℕ) (e : answer bytes threshold classes pairs (length out) ≡ Ok n) (k : ℕ) (h : k < n) where
  -- the line k, from 0 on
  abbrev pub the_line : List ℕ
  the_line = get_or (lines_of bytes) k []

  -- its row in the output
  abbrev pub the_row : List ℕ
  the_row = take NUMBERS_PER_LINE (drop (NUMBERS_PER_LINE * k) (out_after bytes threshold classes pairs out))

  pub row_at : the_row ≡ row_numbers (mess_ratio_utf8 the_line threshold classes pairs)
  unfolding out_after
  row_at =
      let a = lines_faultless bytes threshold classes pairs (length out) n e in
      let f = faultless_free bytes threshold classes pairs (length out) a.0 in
      rw (after_allowed (rows threshold classes pairs (lines_of bytes)) out _ f)
      (rw (put_first out (rows threshold classes pairs (lines_of bytes)))
      (row_in threshold classes pairs (lines_of bytes) k _ (omega (arith, a.1))))

  module _ (s : Score) (told : mess_ratio_utf8 the_line threshold classes pairs ≡ Ok s) where
    pub row_scored : the_row ≡ row_numbers (Ok s)
    row_scored = row_at ∙ ap row_numbers told

    pub demand_three_lines : fits binary32 threshold ≡ true → Certain (text_of the_line) threshold classes pairs s
    demand_three_lines f =
        let a = lines_faultless bytes threshold classes pairs (length out) n e in
        demand_three_utf8 the_line threshold classes pairs s told (record { is_finite_holds = a.0.finite; is_f32 = f })

    pub lines_at_most : Bounded s
    lines_at_most = utf8_at_most the_line threshold classes pairs s told
