-- Each of the eight is what `ratio_of` ensures of its counts. Assumes nothing.
use Rattle.ratio.specs.Eight.{fractions_of, ratios}
use Rattle.ratio.proofs.rounding.ratios.Goals as goal

pub returns : goal.returns
unfolding ratios fractions_of
returns c =
    λ i. record {
      symbols = c.ratio_of.ensures i;
      accents = c.ratio_of-2.ensures i;
      unprintable = c.ratio_of-3.ensures i;
      ranges = c.ratio_of-4.ensures i;
      doubled = c.ratio_of-5.ensures i;
      words = c.ratio_of-6.ensures i;
      stops = c.ratio_of-7.ensures i;
      archaic = c.ratio_of-8.ensures i;
    }
