-- Each of the eight is what `shown_of` ensures. Assumes nothing.
use Rattle.ratio.specs.Shown.{eight_shown}
use Rattle.ratio.proofs.telling.eight_shown.Goals as goal

pub returns : goal.returns
unfolding eight_shown
returns c =
    λ i. record {
      symbols = c.shown_of.ensures i;
      accents = c.shown_of-2.ensures i;
      unprintable = c.shown_of-3.ensures i;
      ranges = c.shown_of-4.ensures i;
      doubled = c.shown_of-5.ensures i;
      words = c.shown_of-6.ensures i;
      stops = c.shown_of-7.ensures i;
      archaic = c.shown_of-8.ensures i;
    }
