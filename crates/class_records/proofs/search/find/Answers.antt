-- The first record that ends at p or past it is the only one that may hold p, and does where it starts at p or before it.
-- Assumes nothing.
use mathlib.Core.Path.{sym, ◌∙◌}
use Rattle.class_records.proofs.Loops.Halving.{ending_past, ending_holds, ending_gap}
use Rattle.class_records.proofs.search.find.Goals as goal

pub returns-then-none-i : goal.returns-then-none-i
returns-then-none-i c = sym (ending_past _ c.requires _ (rw c.first_ending-i.ensures at c.if-none-i.true))

pub returns-then-first_of-p : goal.returns-then-first_of-p
returns-then-first_of-p c =
    let is = c.first_ending-i.ensures in
    is
    ∙ sym (ending_holds _ c.requires _ (rw is at c.if-none-i.false)
    (rw (c.first_of.ensures, is) at c.if-first_of-p.true))

pub returns : goal.returns
returns c =
    let is = c.first_ending-i.ensures in
    sym (ending_gap _ c.requires _ (rw is at c.if-none-i.false)
    (rw (c.first_of.ensures, is) at c.if-first_of-p.false))
