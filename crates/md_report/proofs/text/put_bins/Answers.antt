-- After k bins the output has their lines. Assumes nothing.
use native.Mathlib.Omega.{arith}
use Rattle.md_report_meaning.specs.Inner.Written.{bin_lines}
use Rattle.md_report.proofs.Loops.Writing.{writing_start, writing_more, writing_end, writing_near, writing_length}
use Rattle.md_report.proofs.text.put_bins.Goals as goal

pub loop-k-init : goal.loop-k-init
loop-k-init c = writing_start _ _ _ _ (omega (arith, c.requires))

pub put_bin-next-requires : goal.put_bin-next-requires
unfolding bin_lines
put_bin-next-requires c =
    let near = writing_near _ _ _ _ _ _ _ c.loop-k.invariant in
    let long = writing_length _ _ _ _ _ _ _ c.loop-k.invariant in
    omega (arith, near, long, c.requires)

pub loop-k-preserved : goal.loop-k-preserved
loop-k-preserved c =
    writing_more _ _ _ _ _ _ _ c.loop-k.invariant _ _ c.loop-k-test.true c.put_bin-next.ensures

pub shape_of-out : goal.shape_of-out
shape_of-out c = writing_length _ _ _ _ _ _ _ c.loop-k.invariant

pub returns : goal.returns
unfolding bin_lines
returns c = writing_end _ _ _ _ _ _ _ c.loop-k.invariant c.loop-k-test.false
