-- The invariant: the two counts, and the flags and the base of the last letter, are those after i characters. Assumes nothing.
use Rattle.md_second.proofs.Loops.Upto.{upto_end}
use mathlib.Core.Path.{refl}
use Rattle.md_neighbours.specs.SuspiciousDuplicateAccent.{counts}
use Rattle.md_second.proofs.Loops.Counting.{doubled_start, doubled_more}
use Rattle.md_second.proofs.counting.count_doubled.Goals as goal

pub loop-i-init : goal.loop-i-init
loop-i-init c = doubled_start _ _ _

pub loop-i-preserved : goal.loop-i-preserved
loop-i-preserved c =
    doubled_more _ _ c.loop-i.invariant c.loop-i-test.true c.is_set.ensures c.is_set-in-loop-i.ensures c.is_shared.ensures
    c.is_shared-in-loop-i.ensures refl c.one-doubled.ensures.is c.one-doubled-in-loop-i.ensures.is c.one-letters.ensures.is
    c.pick-last.ensures.is c.pick-last_base.ensures.is

pub returns : goal.returns
unfolding counts
returns c = rw (← upto_end _ _ _ _ _ c.loop-i.invariant c.loop-i-test.false) c.counts_of.ensures
