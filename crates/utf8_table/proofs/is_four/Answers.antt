-- Past the end a byte is 0, which continues nothing; within it the tests are the table's. Assumes nothing.
use mathlib.Core.Path.{sym}
use native.Mathlib.Omega.{arith}
use lib.ListN.{get_or-eq_default}
use Rattle.utf8_table.specs.Inner.ByLead.{leads_four}
use Rattle.utf8_table.proofs.Laws.ByLead.{cut_four}
use Rattle.utf8_table.proofs.is_four.Goals as goal

pub returns-then-b-i-lt4 : goal.returns-then-b-i-lt4
returns-then-b-i-lt4 c = sym (cut_four _ _ _ _ (get_or-eq_default c.args.b.now 0 (omega arith)))

pub returns : goal.returns
unfolding leads_four
returns c =
    rw (
      c.in_range-3.ensures,
      c.in_range-2.ensures,
      c.in_range.ensures,
      c.pick-hi.ensures.is,
      c.pick-lo.ensures.is,
      c.wide-3.ensures.is,
      c.wide-2.ensures.is,
      c.wide.ensures.is,
      c.wide-a.ensures.is,
    )
