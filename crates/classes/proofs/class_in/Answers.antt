-- `at` is the record that holds the code point, or the number of records.
-- Assumes nothing.
use mathlib.Core.Path.{sym}
use Rattle.classes.specs.Lookup.{record_class}
use Rattle.classes.proofs.Laws.Lookup.{lent_held, lent_none}
use Rattle.classes.proofs.class_in.Goals as goal

pub returns-then-at-classes : goal.returns-then-at-classes
unfolding record_class
returns-then-at-classes c =
    let is = c.requires in
    rw (c.or_self-then-at-classes.ensures, c.or_self.ensures, c.record_at-r.ensures, is)
    (sym (lent_held _ _ (rw is at c.if-at-classes.true)))

pub returns : goal.returns
returns c = sym (lent_none _ _ (rw c.requires at c.if-at-classes.false))
