-- No record before i uses the place; and where one does, it has 16 bits as every place has. Assumes nothing.
use Rattle.class_compact.proofs.Loops.Seeking.{seeking_start, seeking_hit, seeking_more, seeking_end}
use Rattle.class_compact_meaning.specs.Check.{first_use}
use borrow.Author.Tests.{eq-eqb, ne_eqb}
use native.Mathlib.Omega.{arith}
use Rattle.class_compact.proofs.fault.first_use.Goals as goal

pub loop-i-init : goal.loop-i-init
loop-i-init c = seeking_start _ _

pub returns-then-place_of-place : goal.returns-then-place_of-place
unfolding first_use
returns-then-place_of-place c =
    record {
      is = seeking_hit _ _ c.loop-i.invariant c.loop-i-test.true (rw (← c.place_of.ensures.is) (eq-eqb _ _ c.if-place_of-place.true));
      small = λ h. omega (arith, c.if-place_of-place.true, c.place_of.ensures.small);
    }

pub loop-i-preserved : goal.loop-i-preserved
loop-i-preserved c =
    seeking_more _ _ c.loop-i.invariant c.loop-i-test.true (rw (← c.place_of.ensures.is) (ne_eqb _ _ c.if-place_of-place.false))

pub returns : goal.returns
unfolding first_use
returns c =
    record { is = seeking_end _ _ c.loop-i.invariant c.loop-i-test.false; small = λ h. omega (arith, h, c.loop-i-test.false) }
