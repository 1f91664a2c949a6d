-- The detectors by their numbers, 1 to 8 in md.rs's order, and none at 0. The law that the number of a number's detector is that number stands in proofs/Laws/Numbered.
-- Assumes nothing.
use Rattle.std.specs.Prelude.{ℕ, get_or, [], ◌∷◌, Option, Some, None}
use Rattle.md_reason_meaning.specs.declared.Detector.{Detector}
use Rattle.md_reason_meaning.specs.declared.Detector.TheVariants.{Symbols, Accents, Unprintable, Ranges, Doubled, Words, Stops, Archaic}
use Rattle.md_reason_meaning.specs.Greatest.{NO_DETECTOR}

-- the detector of a number
unfoldable pub detector_at : ℕ → Option Detector
detector_at d =
    get_or (None ∷ Some Symbols ∷ Some Accents ∷ Some Unprintable ∷ Some Ranges ∷ Some Doubled ∷ Some Words ∷ Some Stops ∷ Some Archaic ∷ []) d None

-- its number again
unfoldable pub detector_number : Option Detector → ℕ
detector_number None = NO_DETECTOR
detector_number (Some Symbols) = 1
detector_number (Some Accents) = 2
detector_number (Some Unprintable) = 3
detector_number (Some Ranges) = 4
detector_number (Some Doubled) = 5
detector_number (Some Words) = 6
detector_number (Some Stops) = 7
detector_number (Some Archaic) = 8
