-- A line that fits into the room is taken in one pass; another that was counted is readable, and the tables were checked before. Assumes nothing.
use mathlib.Core.Path.{sym, ◌∙◌}
use native.Mathlib.Omega.{arith}
use Rattle.utf8_meaning.proofs.Laws.Answer.{readable}
use Rattle.md_utf8_meaning.proofs.Laws.ScoreUtf8.{unread, read}
use Rattle.md_lines.proofs.rows.score_line.Goals as goal

pub score_taken-requires : goal.score_taken-requires
score_taken-requires c =
    let fits = c.if-line-room.true in
    let asked = c.requires in
    (fits, omega (arith, fits, asked.1), asked.0)

pub through-requires : goal.through-requires
through-requires c =
    let counted = c.count_utf8 in
    let asked = c.requires in
    (readable _ _ (sym counted.ensures ∙ c.in-Ok.is), c.if-n-room.true, asked.0)

pub returns-then-n-room : goal.returns-then-n-room
returns-then-n-room c =
    let counted = c.count_utf8 in
    read _ _ _ _ _ (sym counted.ensures ∙ c.in-Ok.is) _ c.through.ensures

pub score_larger-requires : goal.score_larger-requires
score_larger-requires c =
    let counted = c.count_utf8 in
    let asked = c.requires in
    (readable _ _ (sym counted.ensures ∙ c.in-Ok.is), asked.0)

pub returns-in-Err : goal.returns-in-Err
returns-in-Err c = unread _ _ _ _ _ (sym c.count_utf8.ensures ∙ c.in-Err.is)

pub returns-else-n-room : goal.returns-else-n-room
returns-else-n-room c =
    let counted = c.count_utf8 in
    read _ _ _ _ _ (sym counted.ensures ∙ c.in-Ok.is) _ c.score_larger.ensures
