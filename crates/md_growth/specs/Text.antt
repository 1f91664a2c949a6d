-- Growth over a text (02 [8]: "the indexes of the fed characters at which that detector's numerator grew", "the index of the last growth"): each
-- detector's numerator by the detector's number, whether it grows at the character at i, by the scan's own steps (md_meaning, Scan: stateAt), the place of the
-- last growth before i, and the watched state after i characters. That its eight are stateAt's and its places are those of the last growths are the laws
-- `watched_eight` and `last_growth`, in proofs/Laws/Growth.
-- Assumes nothing.
use Rattle.std.specs.Prelude.{ℕ, zero, suc, ◌+◌, Bool, cond, List, [], ◌∷◌, ltb, get_or}
use Rattle.classes.specs.declared.Class.{Class}
use Rattle.classes.specs.Pairs.{suspicious}
use Rattle.ratio.specs.declared.EightCounts.{EightCounts}
use Rattle.md_eight.specs.Detectors.{counts, last_range}
use Rattle.md_meaning.specs.Text.{char_at}
use Rattle.md_meaning.specs.Scan.{class_in, class_at, state_at}
use Rattle.md_growth.specs.declared.Growths.{Growths}
use Rattle.md_growth.specs.declared.Watched.{Watched}
use Rattle.md_growth.specs.Growth.{start, watch}

-- the numerator of a detector, 1 to 8 in md.rs's order; detector 0 is none and counts nothing
unfoldable pub numerator_of : ℕ → EightCounts → ℕ
numerator_of d c =
    get_or
    (0
    ∷ c.symbols.numerator
    ∷ c.accents.numerator
    ∷ c.unprintable.numerator
    ∷ c.ranges.numerator
    ∷ c.doubled.numerator
    ∷ c.words.numerator
    ∷ c.stops.numerator
    ∷ c.archaic.numerator
    ∷ [])
    d 0

-- the place of a detector's last growth
unfoldable pub growth_of : ℕ → Growths → ℕ
growth_of d g = get_or (0 ∷ g.symbols ∷ g.accents ∷ g.unprintable ∷ g.ranges ∷ g.doubled ∷ g.words ∷ g.stops ∷ g.archaic ∷ []) d 0

-- the last index below n at which a test holds, and 1; 0 where there is none
unfoldable pub last_of : (ℕ → Bool) → ℕ → ℕ
last_of f zero = 0
last_of f (suc n) = cond (f n) (n + 1) (last_of f n)

-- one character of a text, whose pair of ranges is looked up
unfoldable pub watched_next : List ℕ → Watched → Class → ℕ → Watched
watched_next pairs w c place = watch w c (suspicious pairs (last_range w.eight) c.range) place

module _ (classes pairs text : List ℕ) where
  -- the numerator after i characters, and whether it is greater after the one at i
  abbrev pub numerator_at : ℕ → ℕ → ℕ
  numerator_at d i = numerator_of d (counts (state_at classes pairs text i))

  unfoldable pub grows : ℕ → ℕ → Bool
  grows d i = ltb (numerator_at d i) (numerator_at d (i + 1))

  -- the watched state after i characters
  unfoldable pub watched_at : ℕ → Watched
  watched_at zero = start
  watched_at (suc i) = watched_next pairs (watched_at i) (class_in (char_at text i) (class_at classes text i)) (i + 1)
