use lib.ListN.{get_or}
use Rattle.md_report_meaning.specs.Bins.{BINS}
use Rattle.md_report_meaning.specs.Text.{bin_line}
use Rattle.md_report.proofs.Loops.Writing.{Writing}
use Rattle.md_report.proofs.text.put_bins.Given as goal

abbrev pub invariant-loop-k : goal.invariant-loop-k
invariant-loop-k l = Writing (λ bin. bin_line l.detector bin (get_or l.counts bin 0)) BINS l.initial.out l.out l.at l.next l.k
