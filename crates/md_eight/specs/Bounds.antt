-- 01's bounds ("All but CJK stops have ratios of at most 2, 1, 8, 2, 4, 1 and 1, in order"), of the counts that are shown with each ratio (02 [7]). The
-- law stands in proofs/Loops/Detectors.
-- Assumes nothing.
use Rattle.std.specs.Prelude.{◌*◌, ◌≤◌}
use Rattle.ratio.specs.declared.EightShown.{EightShown}

pub record CountsAtMost (e : EightShown) : Type 0 where
  pub symbols : e.symbols.num ≤ 2 * e.symbols.den
  pub accents : e.accents.num ≤ 1 * e.accents.den
  pub unprintable : e.unprintable.num ≤ 8 * e.unprintable.den
  pub ranges : e.ranges.num ≤ 2 * e.ranges.den
  pub doubled : e.doubled.num ≤ 4 * e.doubled.den
  pub words : e.words.num ≤ 1 * e.words.den
  pub archaic : e.archaic.num ≤ 1 * e.archaic.den
