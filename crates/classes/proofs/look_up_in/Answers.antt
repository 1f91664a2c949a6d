-- Each branch is one of the definition's two.
-- Assumes nothing.
use Rattle.classes.proofs.Laws.Lookup.{class_builtin, class_lent}
use Rattle.classes.proofs.look_up_in.Goals as goal

pub returns-then-point-lt-BUILTIN_END : goal.returns-then-point-lt-BUILTIN_END
returns-then-point-lt-BUILTIN_END c = rw (class_builtin _ _ c.if-point-lt-BUILTIN_END.true, c.builtin_class.ensures)

pub returns : goal.returns
returns c = rw (class_lent _ _ c.if-point-lt-BUILTIN_END.false, c.lent_class.ensures)
