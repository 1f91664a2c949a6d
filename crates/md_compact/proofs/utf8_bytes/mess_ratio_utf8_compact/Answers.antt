-- A wrong length or number is refused in its order. Assumes nothing.
use mathlib.Core.Path.{sym, ◌∙◌}
use Rattle.base.specs.Causes.{refused_at}
use Rattle.base.proofs.Laws.Causes.{handed_on}
use Rattle.class_compact_meaning.proofs.Laws.Sound.{wrong_refused, right_sized}
use Rattle.md_compact.proofs.Laws.Either.{bytes_before, bytes_refused}
use Rattle.md_compact.proofs.utf8_bytes.mess_ratio_utf8_compact.Goals as goal

pub returns-in_err-first_of_bytes : goal.returns-in_err-first_of_bytes
returns-in_err-first_of_bytes c =
    handed_on _ _ c.from_residual.ensures.1 ∙ bytes_before _ _ _ _ _ _ (sym c.first_of_bytes.ensures ∙ c.in_err-first_of_bytes.was)

pub returns-then-wrong_list : goal.returns-then-wrong_list
unfolding refused_at
returns-then-wrong_list c =
    c.refuse.ensures
    ∙ bytes_refused _ _ _ _ _ (sym c.first_of_bytes.ensures ∙ c.in_ok-first_of_bytes.was) _ (wrong_refused _ _ (sym c.wrong_list.ensures ∙ c.if-wrong_list.true))

pub score_utf8_expanded-requires : goal.score_utf8_expanded-requires
score_utf8_expanded-requires c = right_sized _ (sym c.wrong_list.ensures ∙ c.if-wrong_list.false)
