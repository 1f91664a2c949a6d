-- Past the end a byte is 0, which continues nothing; within it the tests are the table's. Assumes nothing.
use mathlib.Core.Path.{refl, sym}
use native.Mathlib.Omega.{arith}
use lib.ListN.{get_or-eq_default}
use Rattle.utf8_table.specs.Inner.ByLead.{leads_three}
use Rattle.utf8_table.proofs.Laws.ByLead.{cut_three, continues_told, second_told}
use Rattle.utf8_table.proofs.is_three.Goals as goal

pub returns-then-b-i-lt3 : goal.returns-then-b-i-lt3
returns-then-b-i-lt3 c = sym (cut_three _ _ _ (get_or-eq_default c.args.b.now 0 (omega arith)))

pub returns : goal.returns
unfolding leads_three
returns c =
    rw (c.wide-2.ensures.is, c.wide.ensures.is, c.wide-second.ensures.is)
    (rw (second_told _ _, continues_told _) refl)
