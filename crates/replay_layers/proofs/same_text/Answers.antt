-- The ranges are in the work area when it is split, so there are at most LAST-RANGE layers. Assumes nothing.
use native.Mathlib.Omega.{arith}
use Rattle.replay_layers.proofs.Loops.Filling.{split_few}
use borrow.Author.Rules.{rules}
use Rattle.replay_layers.proofs.same_text.Goals as goal

pub same_layers-requires : goal.same_layers-requires
same_layers-requires c = (
  search rules,
  omega (arith, c.requires.2, c.work-1.given, c.work-2-1.given, c.work-3-1.given),
  c.requires.0,
  split_few _ _ _ _ _ c.alpha_unicode_split-count.ensures c.set_ranges.ensures.ranges,
)
