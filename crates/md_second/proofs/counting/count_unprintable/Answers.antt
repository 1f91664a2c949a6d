-- The invariant: the count is that after so many characters, all of which are counted. Assumes nothing.
use Prim.Native.Nat.{◌<◌}
use Rattle.std.proofs.lemmas.List.{length-take-le, get_or-take}
use Rattle.md_counts.specs.Unprintable.{counts}
use Rattle.md_second.proofs.Loops.Counting.{unprintable_start, unprintable_more, unprintable_end}
use Rattle.md_second.proofs.counting.count_unprintable.Goals as goal

pub loop-f-init : goal.loop-f-init
loop-f-init c = unprintable_start _ _

pub loop-f-preserved : goal.loop-f-preserved
loop-f-preserved c =
    let h : c.loop-f.f-index < c.args.n = rw (length-take-le _ _ c.requires.long) at c.loop-f-test.true in
    unprintable_more _ c.loop-f.invariant h (rw (get_or-take _ _ _ _ h) at c.is_set.ensures) c.one-unprintable.ensures.is

pub returns : goal.returns
unfolding counts
returns c =
    rw (← unprintable_end _ c.loop-f.invariant (rw (length-take-le _ _ c.requires.long) at c.loop-f-test.false)) c.counts_of.ensures
