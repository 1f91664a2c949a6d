-- By what the lookup finds, 0 and 0 where it is not taken. Assumes nothing.
use mathlib.Core.Path.{sym, ◌∙◌}
use Rattle.cd_taken_meaning.proofs.Laws.Area.{letter_none, letter_at}
use Rattle.cd_taken.proofs.letter_of.Goals as goal

pub returns-in_default : goal.returns-in_default
returns-in_default c = sym (letter_none (sym c.look_up_near.ensures ∙ c.in_default.is))

pub returns : goal.returns
returns c =
    rw (c.pick-2.ensures.is, c.pick.ensures.is, c.is_taken-taken.ensures)
    (sym (letter_at (sym c.look_up_near.ensures ∙ c.in-Some.is)))
