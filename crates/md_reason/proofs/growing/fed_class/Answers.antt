-- Each answer of the lookup is the class that the definition feeds. Assumes nothing.
use mathlib.Core.Path.{sym, ◌∙◌}
use Rattle.md_meaning.specs.Scan.{class_at}
use Rattle.md_reason.proofs.growing.fed_class.Goals as goal

pub returns-in-Some : goal.returns-in-Some
unfolding class_at
returns-in-Some c =
    rw (rw c.point_at-point.ensures at (sym c.look_up_in.ensures ∙ c.in-Some.is))

pub returns-in-None : goal.returns-in-None
unfolding class_at
returns-in-None c =
    rw (c.point_at-point.ensures, rw c.point_at-point.ensures at (sym c.look_up_in.ensures ∙ c.in-None.is))
