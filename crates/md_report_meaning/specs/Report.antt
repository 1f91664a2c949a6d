-- The report (02 [13]): its text in the first places of a lent output, or a refusal. "Refusals: 17 for line 65,536"; then 01's 3 where the output cannot hold
-- the text. Both have place 0.
-- Assumes nothing.
use Rattle.std.specs.Prelude.{ℕ, List, [], ◌∷◌, ltb, length, Result, ⊤}
use Rattle.base.specs.declared.Refusal.{Refusal}
use Rattle.base.specs.Causes.{given, first_of}
use Rattle.base.specs.Counted.{count_unless, lent_after}
use Rattle.base.specs.declared.refusals.Cause.TheVariants.{ManyLines, NoRoom}
use Rattle.md_report_meaning.specs.Rows.{lines_in}
use Rattle.md_report_meaning.specs.Text.{report_text}

-- "up to 65,535 lines"
abbrev pub MOST_LINES : ℕ
MOST_LINES = 65535

-- bytes that hold every text: 5,035 for each detector, and the totals
abbrev pub LONGEST_REPORT : ℕ
LONGEST_REPORT = 40336

-- "17 for line 65,536"
unfoldable pub many_lines : List ℕ → Result ⊤ Refusal
many_lines rows = given (ltb MOST_LINES (lines_in rows)) ManyLines 0

-- "lent output .. too short"
unfoldable pub no_room : List ℕ → ℕ → Result ⊤ Refusal
no_room rows room = given (ltb room (length (report_text rows))) NoRoom 0

unfoldable pub report_causes : List ℕ → ℕ → Result ⊤ Refusal
report_causes rows room = first_of (many_lines rows ∷ no_room rows room ∷ [])

-- the bytes written, or the refusal
unfoldable pub report_answer : List ℕ → ℕ → Result ℕ Refusal
report_answer rows room = count_unless (report_causes rows room) (length (report_text rows))

unfoldable pub report_into : List ℕ → List ℕ → List ℕ
report_into rows out = lent_after (report_causes rows (length out)) (report_text rows) out
