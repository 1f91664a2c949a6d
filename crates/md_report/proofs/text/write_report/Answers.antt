-- The totals go behind the detectors, whose text leaves room for them. Assumes nothing.
use native.Mathlib.Omega.{arith}
use Rattle.pieces.proofs.Laws.Pieces.{goes_on, goes_as, goes_length}
use Rattle.md_report_meaning.proofs.Laws.Text.{kinds_few, report_whole}
use Rattle.md_report_meaning.proofs.Laws.Longest.{detectors_fit}
use Rattle.md_report.proofs.text.write_report.Goals as goal

pub put_detectors-at-requires : goal.put_detectors-at-requires
put_detectors-at-requires c =
    let fit = detectors_fit _ c.requires.0 in
    (c.requires.0, omega (arith, fit, c.requires.1))

pub refused_in-refused-requires : goal.refused_in-refused-requires
refused_in-refused-requires c =
    kinds_few _ _ c.kinds_of-kinds.ensures c.requires.0

pub put_totals-requires : goal.put_totals-requires
put_totals-requires c =
    let short = detectors_fit _ c.requires.0 in
    let long = goes_length c.put_detectors-at.ensures in
    omega (arith, short, long, c.put_detectors-at.ensures.ends, c.requires.1)

pub returns : goal.returns
returns c =
    goes_as (report_whole _ _ c.kinds_of-kinds.ensures _ _ c.lines_in.ensures c.refused_in-refused.ensures)
    (goes_on c.put_detectors-at.ensures c.put_totals.ensures)
