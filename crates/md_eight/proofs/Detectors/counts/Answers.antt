-- Each of the eight is its definition's. Assumes nothing.
use Rattle.md_eight.specs.Detectors.{counts}
use borrow.Author.Rules.{rules}
use Rattle.md_eight.proofs.Detectors.counts.Goals as goal

pub counts-requires : goal.counts-requires
unfolding counts
counts-requires c = search rules

pub counts-requires-2 : goal.counts-requires-2
unfolding counts
counts-requires-2 c = search rules

pub counts-requires-3 : goal.counts-requires-3
unfolding counts
counts-requires-3 c = search rules

pub counts-requires-4 : goal.counts-requires-4
unfolding counts
counts-requires-4 c = search rules

pub counts-requires-5 : goal.counts-requires-5
unfolding counts
counts-requires-5 c = search rules

pub returns : goal.returns
unfolding counts
returns c =
    simp (c.counts.ensures, c.counts-2.ensures, c.counts-3.ensures, c.counts-4.ensures, c.counts-5.ensures, c.counts-6.ensures, c.counts-7.ensures, c.counts-8.ensures)
