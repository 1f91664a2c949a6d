-- A table that is refused has no class to tell; in a good one the lookup decides. Assumes nothing.
use mathlib.Core.Path.{sym, ◌∙◌}
use Rattle.classes.proofs.Laws.Check.{free_good}
use Rattle.host.specs.Why.{host_class}
use Rattle.host.proofs.drasumira_class.Goals as goal

pub look_up_in-requires : goal.look_up_in-requires
look_up_in-requires c =
    (free_good _ (sym c.bad_classes.ensures ∙ c.in-Ok.is), c.table-table.ensures)

pub returns-in-Err : goal.returns-in-Err
unfolding host_class
returns-in-Err c = rw (sym c.bad_classes.ensures ∙ c.in-Err.is, c.number.ensures)

pub returns-in-Ok : goal.returns-in-Ok
returns-in-Ok c =
    rw (c.into.ensures, c.look_up_in.ensures, sym c.bad_classes.ensures ∙ c.in-Ok.is)
