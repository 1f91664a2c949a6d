use Rattle.ratio.specs.Eight.{DETECTORS}
use Rattle.md_report_meaning.specs.Text.{detector_text}
use Rattle.md_report.proofs.Loops.Writing.{Writing}
use Rattle.md_report.proofs.text.put_detectors.Given as goal

abbrev pub invariant-loop-d : goal.invariant-loop-d
invariant-loop-d l = Writing (detector_text l.rows) DETECTORS l.initial.out l.out 0 l.at l.d
