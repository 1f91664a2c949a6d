-- By what the lookup finds; a character that is its own lower case has the class that was found. Assumes nothing.
use mathlib.Core.Path.{sym, ◌∙◌}
use Rattle.cd_taken_meaning.proofs.Laws.Unclassed.{unclassed_none, unclassed_itself}
use Rattle.cd_taken.proofs.is_unclassed.Goals as goal

pub returns-in_default : goal.returns-in_default
returns-in_default c = sym (unclassed_none _ (sym c.look_up_near.ensures ∙ c.in_default.is))

pub returns-then-c-point : goal.returns-then-c-point
returns-then-c-point c =
    sym (unclassed_itself _ c.requires.0 (sym c.look_up_near.ensures ∙ c.in-Some.is) c.if-c-point.true)
