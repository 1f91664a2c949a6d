-- "the detector state keeps the index of the last growth, in the running score too" (02 [8]): beside the eight detectors, for each the place of
-- the character at which its numerator last grew, its index and 1; 0 where it has not grown. A step sets it where the numerator of the counts
-- after it is greater than before; what a detector takes and counts is said elsewhere.
-- Assumes nothing.
use Rattle.std.specs.Prelude.{ℕ, Bool, cond, ltb}
use Rattle.classes.specs.declared.Class.{Class}
use Rattle.ratio.specs.declared.Counts.{Counts}
use Rattle.ratio.specs.declared.EightCounts.{EightCounts}
use Rattle.md_eight.specs.Detectors as eight
use Rattle.md_growth.specs.declared.Growths.{Growths}
use Rattle.md_growth.specs.declared.Watched.{Watched}

-- none has grown
unfoldable pub no_growths : Growths
no_growths =
    record {
      symbols = 0;
      accents = 0;
      unprintable = 0;
      ranges = 0;
      doubled = 0;
      words = 0;
      stops = 0;
      archaic = 0;
    }

-- this place where the numerator has grown, else the last
abbrev pub grown_to : ℕ → Counts → Counts → ℕ → ℕ
grown_to last before after place = cond (ltb before.numerator after.numerator) place last

unfoldable pub grown_after : Growths → EightCounts → EightCounts → ℕ → Growths
grown_after last before after place =
    record {
      symbols = grown_to last.symbols before.symbols after.symbols place;
      accents = grown_to last.accents before.accents after.accents place;
      unprintable = grown_to last.unprintable before.unprintable after.unprintable place;
      ranges = grown_to last.ranges before.ranges after.ranges place;
      doubled = grown_to last.doubled before.doubled after.doubled place;
      words = grown_to last.words before.words after.words place;
      stops = grown_to last.stops before.stops after.stops place;
      archaic = grown_to last.archaic before.archaic after.archaic place;
    }

-- nothing was fed
unfoldable pub start : Watched
start = record { eight = eight.start; grown = no_growths }

-- one character at this place: the eight are fed as ever, and their counts before and after are compared
unfoldable pub watch : Watched → Class → Bool → ℕ → Watched
watch w c suspicious place =
    record {
      eight = eight.feed w.eight c suspicious;
      grown = grown_after w.grown (eight.counts w.eight) (eight.counts (eight.feed w.eight c suspicious)) place;
    }
