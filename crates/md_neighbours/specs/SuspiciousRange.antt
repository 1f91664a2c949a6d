-- Ranges (01): "printable ones. 2s/n, 0 if below 1/10. Whitespace, punctuation and COMMON_SAFE forget the last character." The Rust's
-- SuspiciousRangePlugin. Whether the pair of ranges is suspicious is handed in: the pair table is not this file's. The laws stand in
-- proofs/Laws/SuspiciousRange.
-- Assumes nothing.
use Rattle.std.specs.Prelude.{ℕ, ◌+◌, ◌*◌, Bool, true, false, cond, ◌&&◌, ◌||◌}
use Rattle.base.specs.Flags.{has, UNPRINTABLE, WHITESPACE, PUNCTUATION, COMMON_SAFE}
use Rattle.base.specs.Numbers.{bump}
use Rattle.classes.specs.declared.Class.{Class}
use Rattle.ratio.specs.declared.Fraction.{Fraction}
use Rattle.ratio.specs.declared.Counts.{Counts}
use Rattle.ratio.specs.Fraction.{counts_of, at_least}
use Rattle.md_neighbours.specs.declared.suspicious_range.SuspiciousRange.{SuspiciousRange}

abbrev pub start : SuspiciousRange
start = record { characters = 0; suspicious = 0; seen = false; last = 0 }

unfoldable pub forgets : ℕ → Bool
forgets flags = has flags WHITESPACE || has flags PUNCTUATION || has flags COMMON_SAFE

-- a printable character that forgets the last one
unfoldable pub forgotten : SuspiciousRange → SuspiciousRange
forgotten s = record { characters = s.characters + 1; suspicious = s.suspicious; seen = false; last = 0 }

-- any other printable character: suspicious where there is a last one and the two ranges are; it becomes the last one
unfoldable pub followed : SuspiciousRange → Class → Bool → SuspiciousRange
followed s c suspicious =
    record {
      characters = s.characters + 1;
      suspicious = s.suspicious + bump (s.seen && suspicious);
      seen = true;
      last = c.range;
    }

unfoldable pub feed : SuspiciousRange → Class → Bool → SuspiciousRange
feed s c suspicious =
    cond (has c.flags UNPRINTABLE) s
    (cond (forgets c.flags) (forgotten s)
    (followed s c suspicious))

-- a suspicious pair is worth so many
abbrev pub WORTH : ℕ
WORTH = 2

-- below this part of all the ratio is 0
abbrev pub LEAST_PART : ℕ
LEAST_PART = 1

abbrev pub LEAST_WHOLE : ℕ
LEAST_WHOLE = 10

-- "2s/n"
abbrev pub share : SuspiciousRange → Fraction
share s = record { num = WORTH * s.suspicious; den = s.characters }

-- "0 if below 1/10"
abbrev pub keeps : SuspiciousRange → Bool
keeps s = at_least LEAST_PART LEAST_WHOLE (share s)

unfoldable pub counts : SuspiciousRange → Counts
counts s = counts_of (share s) (keeps s)
