-- Each branch is one of the definition's two; the record found is the one that holds the code point, whatever the hint.
-- Assumes nothing.
use Rattle.classes.proofs.Laws.Lookup.{class_builtin, class_lent}
use Rattle.classes.proofs.look_up_near.Goals as goal

pub returns-then-point-ge-BUILTIN_END : goal.returns-then-point-ge-BUILTIN_END
returns-then-point-ge-BUILTIN_END c = rw (class_lent _ _ c.if-point-ge-BUILTIN_END.true, c.class_in.ensures)

pub returns : goal.returns
returns c = rw (class_builtin _ _ c.if-point-ge-BUILTIN_END.false, c.builtin_class.ensures)
