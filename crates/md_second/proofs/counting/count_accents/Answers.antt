-- The invariant: the two counts are those after so many characters. Assumes nothing.
use Prim.Native.Nat.{◌<◌}
use Rattle.std.proofs.lemmas.List.{length-take-le, get_or-take}
use Rattle.md_second.proofs.Loops.Upto.{upto_end}
use Rattle.md_counts.specs.TooManyAccentuated.{counts}
use Rattle.md_second.proofs.Loops.Counting.{accents_start, accents_more}
use Rattle.md_second.proofs.counting.count_accents.Goals as goal

pub loop-f-init : goal.loop-f-init
loop-f-init c = accents_start _ _

pub loop-f-preserved : goal.loop-f-preserved
loop-f-preserved c =
    let h : c.loop-f.f-index < c.args.n = rw (length-take-le _ _ c.requires.long) at c.loop-f-test.true in
    accents_more _ c.loop-f.invariant h (rw (get_or-take _ _ _ _ h) at c.is_set-letter.ensures) (rw (get_or-take _ _ _ _ h) at c.is_set.ensures)
    c.one-letters.ensures.is c.one-accented.ensures.is

pub returns : goal.returns
unfolding counts
returns c =
    rw (← upto_end _ _ _ _ _ c.loop-f.invariant (rw (length-take-le _ _ c.requires.long) at c.loop-f-test.false))
    (simp (c.counts_of.ensures, c.at_least.ensures))
