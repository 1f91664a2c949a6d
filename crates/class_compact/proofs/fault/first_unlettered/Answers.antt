-- The letters of no record before i are missing. Assumes nothing.
use Rattle.class_compact.proofs.Loops.Seeking.{seeking_start, seeking_hit, seeking_more, seeking_end}
use Rattle.class_compact_meaning.specs.Check.{missing}
use Rattle.class_compact_meaning.specs.Inner.Sound.{first_missing}
use borrow.Author.Tests.{lt-ltb, le-ltb}
use Rattle.class_compact.proofs.fault.first_unlettered.Goals as goal

pub loop-i-init : goal.loop-i-init
loop-i-init c = seeking_start _ _

pub returns-then-m-place_of : goal.returns-then-m-place_of
unfolding missing first_missing
returns-then-m-place_of c =
    seeking_hit _ _ c.loop-i.invariant c.loop-i-test.true (rw (← c.place_of.ensures.is) (lt-ltb _ _ c.if-m-place_of.true))

pub loop-i-preserved : goal.loop-i-preserved
unfolding missing
loop-i-preserved c =
    seeking_more _ _ c.loop-i.invariant c.loop-i-test.true (rw (← c.place_of.ensures.is) (le-ltb _ _ c.if-m-place_of.false))

pub returns : goal.returns
unfolding first_missing
returns c = seeking_end _ _ c.loop-i.invariant c.loop-i-test.false
