-- By what the lookup finds. Assumes nothing.
use mathlib.Core.Path.{sym, ◌∙◌}
use Rattle.cd_taken_meaning.specs.Accents.{is_accentuated}
use Rattle.cd_taken.proofs.is_accentuated.Goals as goal

pub returns-in_default : goal.returns-in_default
unfolding is_accentuated
returns-in_default c = rw (sym c.look_up_near.ensures ∙ c.in_default.is)

pub returns : goal.returns
unfolding is_accentuated
returns c =
    rw (sym c.look_up_near.ensures ∙ c.in-Some.is) c.is_set.ensures
