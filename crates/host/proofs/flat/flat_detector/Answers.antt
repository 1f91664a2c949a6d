-- By the detector: the numbers rise by one from the first. Assumes nothing.
use Prim.Native.Nat.{◌+◌}
use mathlib.Core.Path.{◌≡◌, refl}
use denote.Enum.Declared.{tag_of}
use Rattle.std.specs.Prelude.{Some}
use Rattle.md_reason_meaning.specs.contracts.Detector.{the_type}
use Rattle.md_reason_meaning.specs.declared.Detector.{Detector}
use Rattle.md_reason_meaning.specs.declared.Detector.TheVariants.{Symbols, Accents, Unprintable, Ranges, Doubled, Words, Stops, Archaic}
use Rattle.md_reason_meaning.specs.Numbered.{detector_number}
use Rattle.host.proofs.flat.flat_detector.Goals as goal

numbered : (d : Detector) → tag_of the_type d + 1 ≡ detector_number (Some d)
unfolding detector_number
numbered Symbols = refl
numbered Accents = refl
numbered Unprintable = refl
numbered Ranges = refl
numbered Doubled = refl
numbered Words = refl
numbered Stops = refl
numbered Archaic = refl

pub returns-in-Some : goal.returns-in-Some
returns-in-Some c = rw c.in-Some.is (numbered c.in-Some.d)

pub returns-in-None : goal.returns-in-None
unfolding detector_number
returns-in-None c = rw c.in-None.is
