-- After d detectors the output has their texts. Assumes nothing.
use mathlib.Core.Path.{ap}
use native.Mathlib.Omega.{arith}
use lib.ListN.{length}
use Rattle.pieces.proofs.Laws.Pieces.{goes_as}
use Rattle.md_report.proofs.Loops.Writing.{writing_start, writing_more, writing_end, writing_room, writing_length}
use Rattle.md_report_meaning.proofs.Laws.Text.{counts_text}
use Rattle.md_report.proofs.text.put_detectors.Goals as goal

pub loop-d-init : goal.loop-d-init
loop-d-init c = writing_start _ _ _ _ (omega arith)

pub bins_of-counts-requires : goal.bins_of-counts-requires
bins_of-counts-requires c =
    (c.requires.0, c.loop-d-test.true)

pub put_bins-at-requires : goal.put_bins-at-requires
put_bins-at-requires c =
    let room = writing_room _ _ _ _ _ _ _ c.loop-d.invariant c.loop-d-test.true in
    let long = writing_length _ _ _ _ _ _ _ c.loop-d.invariant in
    let same = ap length (counts_text _ _ _ c.bins_of-counts.ensures) in
    omega (arith, room, long, same, c.requires.1)

pub loop-d-preserved : goal.loop-d-preserved
loop-d-preserved c =
    writing_more _ _ _ _ _ _ _ c.loop-d.invariant _ _ c.loop-d-test.true (goes_as (counts_text _ _ _ c.bins_of-counts.ensures) c.put_bins-at.ensures)

pub shape_of-out : goal.shape_of-out
shape_of-out c = writing_length _ _ _ _ _ _ _ c.loop-d.invariant

pub returns : goal.returns
returns c = writing_end _ _ _ _ _ _ _ c.loop-d.invariant c.loop-d-test.false
