-- The two tests are the definition's two. Assumes nothing.
use Rattle.md_report_meaning.specs.Bins.{zero_bits}
use Rattle.md_report.proofs.count.is_nil.Goals as goal

pub returns : goal.returns
unfolding zero_bits
returns c = cc
