-- One law for each way in which `report` returns (`many_lines_lem`, `no_room_lem`, `written`); and that a text that was written had room (`count_fits`).
-- Assumes nothing.
use Rattle.std.specs.Prelude.{Result, Ok}
use Prim.Native.Nat.{ℕ, ◌≤◌, ◌<◌}
use mathlib.Core.Path.{◌≡◌, sym, ap, ◌∙◌}
use mathlib.Core.List.{List, [], ◌∷◌}
use native.Mathlib.Omega.{arith}
use lib.ListN.{length}
use borrow.Author.Tests.{lt-ltb, le-ltb, ltb-false}
use Rattle.base.specs.declared.refusals.Cause.{Cause}
use Rattle.base.specs.declared.Refusal.{Refusal}
use Rattle.base.specs.Causes.{refused_at, first_of}
use Rattle.base.specs.Counted.{count_unless}
use Rattle.base.specs.Put.{put}
use Rattle.base.specs.declared.refusals.Cause.TheVariants.{ManyLines, NoRoom}
use Rattle.base.proofs.Laws.Causes.{first_given, first_passed, first_free, given_free}
use Rattle.base.proofs.Laws.Counted.{counted_allowed, counted_at, count_allowed, count_is, after_allowed, after_refused}
use Rattle.md_report_meaning.specs.Rows.{lines_in}
use Rattle.md_report_meaning.specs.Text.{report_text}
use Rattle.md_report_meaning.specs.Report.{MOST_LINES, many_lines, no_room, report_causes, report_answer, report_into}

-- the answer is a, and the output is left as new
abbrev pub Ends : List ℕ → List ℕ → Result ℕ Refusal → List ℕ → Type 0
Ends rows out a new = (a ≡ report_answer rows (length out)) × (new ≡ report_into rows out)

module _ (rows out : List ℕ) where
  ends_at : (cause : Cause) (place : ℕ) → report_causes rows (length out) ≡ refused_at cause place → Ends rows out (refused_at cause place) out
  unfolding report_answer report_into refused_at
  ends_at cause place e = (counted_at _ _ cause place e, sym (after_refused _ out _ _ e))

  pub many_lines_lem : (lines : ℕ) → lines ≡ lines_in rows → MOST_LINES < lines → Ends rows out (refused_at ManyLines 0) out
  unfolding report_causes many_lines
  many_lines_lem lines l h = ends_at ManyLines 0 (first_given _ _ ManyLines 0 (lt-ltb MOST_LINES (lines_in rows) (omega (arith, l))))

  module _ (lines : ℕ) (l : lines ≡ lines_in rows) (few : lines ≤ MOST_LINES) where
    few_lines : report_causes rows (length out) ≡ first_of (no_room rows (length out) ∷ [])
    unfolding report_causes many_lines
    few_lines = first_passed _ _ ManyLines 0 (le-ltb MOST_LINES (lines_in rows) (omega (arith, l)))

    module _ (n : ℕ) (e : n ≡ length (report_text rows)) where
      pub no_room_lem : length out < n → Ends rows out (refused_at NoRoom 0) out
      unfolding no_room
      no_room_lem h = ends_at NoRoom 0 (few_lines ∙ first_given [] _ NoRoom 0 (lt-ltb (length out) (length (report_text rows)) (omega (arith, e))))

      pub written : (new : List ℕ) → n ≤ length out → new ≡ put out 0 (report_text rows) → Ends rows out (Ok n) new
      unfolding no_room report_answer report_into first_of
      written new h p =
          let f = few_lines ∙ first_passed [] _ NoRoom 0 (le-ltb (length out) (length (report_text rows)) (omega (arith, e))) in
          (ap Ok e ∙ sym (counted_allowed _ _ f), p ∙ sym (after_allowed _ out _ f))

-- a text that was written had room
pub count_fits : (rows : List ℕ) (room n : ℕ) → report_answer rows room ≡ Ok n → n ≤ room
unfolding report_answer report_causes no_room
count_fits rows room n e =
    let free = first_free (many_lines rows) _ (count_allowed _ _ n e) in
    let short = ltb-false room (length (report_text rows)) (given_free _ NoRoom 0 (first_free _ [] free.1).0) in
    omega (arith, short, count_is _ _ n e)
