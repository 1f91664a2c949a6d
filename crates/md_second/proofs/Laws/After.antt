-- The eight after n characters: how large their counts can be (`eight_within`), so that ratios can be made of them (`eight_small`); and what the readers bring
-- back is what weird words and archaic case count (`read-counts`, `read-case`).
-- Assumes nothing.
use Prim.Native.Nat.{ℕ}
use mathlib.Core.Path.{◌≡◌}
use mathlib.Core.List.{List}
use native.Mathlib.Omega.{arith}
use Rattle.ratio.specs.Inner.Eight.{EachSmall}
use Rattle.md_words.specs.SuperWeirdWord as weird_words
use Rattle.md_words.specs.ArchaicUpperLower as archaic
use Rattle.md_eight.specs.Detectors.{counts}
use Rattle.md_eight.proofs.Loops.Detectors.{Within, within_countable}
use Rattle.md_second.specs.declared.readers.Reading.{Reading}
use Rattle.md_second.specs.Inner.After.{words_after, archaic_after, eight_after}
use Rattle.md_second.specs.Inner.Lists.{Known}
use Rattle.md_second.specs.Inner.Listed.{Listed}
use Rattle.md_second.specs.Inner.Reading.{weird, no_word, archaic_of, Read}
use Rattle.md_second.proofs.Laws.Reading.{words_within, archaic_within}
use Rattle.md_second.proofs.Loops.Counting.{symbols_within, accents_within, unprintable_within, ranges_within, doubled_within, stops_within}

module _ (points flags ranges bases pairs : List ℕ) (n : ℕ) where
  pub eight_within : Known ranges n → Within n (eight_after points flags ranges bases pairs n)
  unfolding eight_after
  eight_within known =
      record {
        symbols = symbols_within points flags n;
        accents = accents_within flags n;
        unprintable = unprintable_within flags n;
        ranges = (ranges_within flags ranges pairs n known n (omega arith)).counted;
        doubled = doubled_within flags bases n;
        words = words_within flags n;
        stops = stops_within points flags n;
        archaic = archaic_within flags n;
      }

  pub eight_small : Listed points flags ranges bases pairs n → EachSmall (counts (eight_after points flags ranges bases pairs n))
  eight_small l = within_countable n (eight_after points flags ranges bases pairs n) (eight_within l.known) (omega (arith, l.flags.room))

module _ (flags : List ℕ) (n : ℕ) (r : Reading) (g : Read flags n r) where
  pub read_words_counts : weird_words.counts (weird r.words no_word) ≡ weird_words.counts (words_after flags n)
  unfolding weird_words.counts
  read_words_counts = rw (g.characters, g.words, g.foreign, g.spoilt)

  pub read_case_counts : archaic.counts (archaic_of n r.case) ≡ archaic.counts (archaic_after flags n)
  unfolding archaic.counts
  read_case_counts = rw (← g.fed, g.total)
