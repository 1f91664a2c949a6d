-- What the counts that an answer shows say of it (02 [7]): of each ratio whether it was cut off and what it was rounded from (`Tells`), of demand 3's
-- fractions that they are those counts (`Shares`), so that demand 3 can be read off the answer, and that 01's bounds hold of them. Law: `counts_so`.
-- Assumes nothing.
use Rattle.std.specs.Prelude.{ℕ, List}
use Rattle.ratio.specs.Shown.{EachTells, EachShares}
use Rattle.md_eight.specs.Bounds.{CountsAtMost}
use Rattle.md_meaning.specs.declared.Score.{Score}
use Rattle.md_meaning.specs.DemandThree.{fractions_at}

pub record CountsSo (text classes pairs : List ℕ) (s : Score) : Type 0 where
  pub tells : EachTells s.counts s.ratios
  pub shares : EachShares s.counts (fractions_at classes pairs text s.fed)
  pub at_most : CountsAtMost s.counts
