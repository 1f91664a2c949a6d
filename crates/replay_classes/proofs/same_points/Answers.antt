-- The table that is lent has passed the check. Assumes nothing.
use mathlib.Core.Path.{sym, ◌∙◌}
use Rattle.classes.proofs.Laws.Check.{passed_good}
use Rattle.replay_classes.proofs.same_points.Goals as goal

pub same_classes-requires : goal.same_classes-requires
same_classes-requires c = (passed_good _ _ (sym c.check_classes.ensures ∙ c.in-Ok.is)).good
