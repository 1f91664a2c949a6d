-- The answer picks the line, whose sum is no NaN. Assumes nothing.
use mathlib.Core.Path.{◌∙◌, sym}
use Rattle.program.proofs.Laws.Program.{answer_plain}
use Rattle.program.proofs.Laws.Pieces.{goes_whole}
use borrow.Author.Rules.{rules}
use Rattle.program.proofs.report.Goals as goal

pub put_score-requires : goal.put_score-requires
put_score-requires c = ((answer_plain _ _ (sym c.in-Ok.is ∙ c.answer.ensures)).sum.no_nan, search rules)

pub returns-in-Err : goal.returns-in-Err
returns-in-Err c =
    goes_whole _ _ _ _ _ (sym c.in-Err.is ∙ c.answer.ensures) c.put_refused.ensures

pub returns-in-Ok : goal.returns-in-Ok
returns-in-Ok c =
    goes_whole _ _ _ _ _ (sym c.in-Ok.is ∙ c.answer.ensures) c.put_score.ensures
