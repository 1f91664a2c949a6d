-- The definition's test, with the period. Assumes nothing.
use Rattle.md_meaning.specs.Text.{checkpoint}
use Rattle.md_second.proofs.scan.is_compared.Goals as goal

pub returns : goal.returns
unfolding checkpoint
returns c = rw c.period_of-period.ensures.is
