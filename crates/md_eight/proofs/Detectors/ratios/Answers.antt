-- The ratios are those of the counts, which the caller has shown small. Assumes nothing.
use Rattle.md_eight.proofs.Detectors.ratios.Goals as goal

pub ratios-requires : goal.ratios-requires
ratios-requires c = rw c.counts.ensures c.requires

pub returns : goal.returns
returns c = cc
