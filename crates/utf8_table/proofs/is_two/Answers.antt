-- Past the end a byte is 0, which continues nothing; within it the tests are the table's. Assumes nothing.
use mathlib.Core.Path.{sym}
use native.Mathlib.Omega.{arith}
use lib.ListN.{get_or-eq_default}
use Rattle.utf8_table.specs.Inner.ByLead.{leads_two}
use Rattle.utf8_table.proofs.Laws.ByLead.{cut_two}
use Rattle.utf8_table.proofs.is_two.Goals as goal

pub returns-then-b-i-lt2 : goal.returns-then-b-i-lt2
returns-then-b-i-lt2 c = sym (cut_two _ _ (get_or-eq_default c.args.b.now 0 (omega arith)))

pub returns : goal.returns
unfolding leads_two
returns c = rw (c.in_range.ensures, c.wide-2.ensures.is, c.wide.ensures.is)
