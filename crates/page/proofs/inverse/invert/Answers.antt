-- The first b bytes stand at their code points (`Inverting`). Assumes nothing.
use native.Mathlib.Omega.{arith}
use Rattle.page_meaning.proofs.Laws.Tables.{point_word}
use Rattle.page.proofs.Loops.Inverting.{inverting_start, inverting_more, inverting_end}
use Rattle.page.proofs.inverse.invert.Goals as goal

pub loop-b-init : goal.loop-b-init
loop-b-init c = inverting_start _ _ c.requires.1

pub bounds-inverse-point_of : goal.bounds-inverse-point_of
bounds-inverse-point_of c =
    let w = point_word c.args.page.now (λ i h. omega (arith, c.shared_slice_known-1.given i)) c.loop-b.b in
    omega (arith, c.point_of.ensures)

pub loop-b-preserved : goal.loop-b-preserved
loop-b-preserved c =
    let w = point_word c.args.page.now (λ i h. omega (arith, c.shared_slice_known-1.given i)) c.loop-b.b in
    inverting_more _ _ c.requires.0 _ c.loop-b.invariant c.loop-b-test.true _ c.point_of.ensures (omega (arith, c.point_of.ensures))

pub returns : goal.returns
returns c = inverting_end _ _ c.requires.0 _ c.loop-b.invariant c.loop-b-test.false
