-- What is written past those that stand changes nothing of what is taken. Assumes nothing.
use native.Mathlib.Omega.{arith}
use Rattle.utf8_taking.proofs.Loops.Taking.{placed_start, placed_more, placed_length, placed_all}
use Rattle.utf8_taking.proofs.put_twos.Goals as goal

pub loop-j-init : goal.loop-j-init
loop-j-init c = placed_start _ _ _ _ (omega (arith, c.requires.0.left))

pub bounds-out-to : goal.bounds-out-to
bounds-out-to c =
    let asked = c.requires in
    let kept = placed_length _ _ _ _ _ _ asked.0 c.loop-j.invariant in
    omega (arith, asked.0.places, asked.1, kept, c.loop-j-test.true)

pub loop-j-preserved : goal.loop-j-preserved
loop-j-preserved c =
    let asked = c.requires in
    placed_more _ _ _ _ _ _ asked.0 c.loop-j.invariant _ c.two_at.ensures

pub shape_of-out : goal.shape_of-out
shape_of-out c = placed_length _ _ _ _ _ _ c.requires.0 c.loop-j.invariant

pub returns : goal.returns
returns c = placed_all _ _ _ _ _ _ c.loop-j.invariant c.loop-j-test.false
