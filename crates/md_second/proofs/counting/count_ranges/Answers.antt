-- The invariant: the two counts, and the last range if one is remembered, are those after i characters. Assumes nothing.
use Rattle.md_second.proofs.Loops.Upto.{upto_end}
use mathlib.Core.Path.{refl}
use Rattle.md_neighbours.specs.SuspiciousRange.{counts}
use Rattle.md_second.proofs.Loops.Counting.{ranges_start, ranges_more}
use Rattle.md_second.proofs.counting.count_ranges.Goals as goal

pub loop-i-init : goal.loop-i-init
loop-i-init c = ranges_start _ _ _ _ c.requires.3

pub loop-i-preserved : goal.loop-i-preserved
loop-i-preserved c =
    ranges_more _ _ _ c.requires.3 c.loop-i.invariant c.loop-i-test.true c.is_set-printable.ensures c.is_forgetful.ensures
    c.is_suspicious.ensures c.one-suspicious.ensures.is c.one-printed.ensures.is c.pick.ensures.is refl
    c.pick-last.ensures.is

pub returns : goal.returns
unfolding counts
returns c =
    rw (← upto_end _ _ _ _ _ c.loop-i.invariant c.loop-i-test.false) (simp (c.counts_of.ensures, c.at_least.ensures))
