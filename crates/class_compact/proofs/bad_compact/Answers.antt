-- A wrong length or number, or what the expansion shows. Assumes nothing.
use Rattle.class_compact_meaning.proofs.Laws.Sound.{wrong_refused, right_sized}
use mathlib.Core.Path.{sym, ◌∙◌}
use Rattle.class_compact.proofs.bad_compact.Goals as goal

pub returns-then-wrong_list : goal.returns-then-wrong_list
returns-then-wrong_list c = c.refuse.ensures ∙ sym (wrong_refused _ _ (sym c.wrong_list.ensures ∙ c.if-wrong_list.true))

pub bad_expanded-requires : goal.bad_expanded-requires
bad_expanded-requires c = right_sized _ (sym c.wrong_list.ensures ∙ c.if-wrong_list.false)
