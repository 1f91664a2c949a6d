-- The count goes up as the definition says, and has room. Assumes nothing.
use mathlib.Core.Path.{refl}
use Rattle.md_counts.specs.Inner.Unprintable.{feed_run}
use Rattle.md_counts.proofs.unprintable.Unprintable.feed_run.Goals as goal

pub returns : goal.returns
unfolding feed_run
returns c = refl
