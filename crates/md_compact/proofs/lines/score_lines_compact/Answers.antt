-- A wrong length or number is refused in its order. Assumes nothing.
use mathlib.Core.Path.{sym, ◌∙◌}
use Rattle.base.specs.Causes.{refused_at}
use Rattle.base.proofs.Laws.Causes.{handed_on}
use Rattle.class_compact_meaning.proofs.Laws.Sound.{wrong_refused, right_sized}
use Rattle.md_compact.proofs.Laws.Either.{lines_before, lines_refused}
use Rattle.md_compact.proofs.lines.score_lines_compact.Goals as goal

pub returns-in_err-first_of_burst : goal.returns-in_err-first_of_burst
returns-in_err-first_of_burst c =
    let told = lines_before _ _ _ _ _ _ _ (sym c.first_of_burst.ensures ∙ c.in_err-first_of_burst.was) in
    record { value = handed_on _ _ c.from_residual.ensures.1 ∙ told.0; out_after = told.1 }

pub returns-then-wrong_list : goal.returns-then-wrong_list
unfolding refused_at
returns-then-wrong_list c =
    let told = lines_refused _ _ _ _ _ _ (sym c.first_of_burst.ensures ∙ c.in_ok-first_of_burst.was) _
    (wrong_refused _ _ (sym c.wrong_list.ensures ∙ c.if-wrong_list.true)) in
    record { value = c.refuse.ensures ∙ told.0; out_after = told.1 }

pub score_lines_expanded-requires : goal.score_lines_expanded-requires
score_lines_expanded-requires c = right_sized _ (sym c.wrong_list.ensures ∙ c.if-wrong_list.false)
