-- The eight are fed by their own step, and the places compare its counts with those before it. Assumes nothing.
use Rattle.md_growth.specs.Growth.{watch}
use Rattle.md_growth.proofs.Watched.watch.Goals as goal

pub counts-requires : goal.counts-requires
counts-requires c = rw c.fed_watched-eight.ensures c.requires.after

pub returns : goal.returns
unfolding watch
returns c =
    simp (c.grown_after.ensures, c.counts.ensures, c.fed_watched-eight.ensures, c.counts-before.ensures)
