-- The list is counted, then its room is tested, and only then is it written. Assumes nothing.
use mathlib.Core.Path.{◌∙◌}
use native.Mathlib.Omega.{arith}
use Rattle.md_reason_meaning.proofs.Laws.Reason.{listed_short, short_into, listed_told, told_into}
use Rattle.md_reason.proofs.list_growths.Goals as goal

pub count_growths-count-requires : goal.count_growths-count-requires
count_growths-count-requires c =
    (record { tables = c.requires.0; short = c.requires.1; builtin = c.table-table.ensures }, c.requires.2, c.requires.3)

pub returns-then-out-count : goal.returns-then-out-count
returns-then-out-count c =
    record {
      value = c.refuse.ensures ∙ listed_short _ _ _ _ _ _ (omega (arith, c.count_growths-count.ensures, c.if-out-count.true));
      out_after = short_into _ _ _ _ _ _ (omega (arith, c.count_growths-count.ensures, c.if-out-count.true));
    }

pub put_growths-requires : goal.put_growths-requires
put_growths-requires c = (
  record { tables = c.requires.0; short = c.requires.1; builtin = c.table-table.ensures },
  c.requires.2,
  c.requires.3,
  omega (arith, c.count_growths-count.ensures, c.if-out-count.false),
)

pub returns : goal.returns
returns c =
    record {
      value = rw c.detector_at.ensures (listed_told _ _ _ _ _ _ _ c.count_growths-count.ensures (omega (arith, c.count_growths-count.ensures, c.if-out-count.false)));
      out_after = c.put_growths.ensures ∙ told_into _ _ _ _ _ _ (omega (arith, c.count_growths-count.ensures, c.if-out-count.false));
    }
