-- Accents (01): "ALPHABETIC ones. accented/n, 0 if n < 8 or below 7/20." The Rust's TooManyAccentuatedPlugin. The laws
-- stand in proofs/Laws/TooManyAccentuated.
-- Assumes nothing.
use Rattle.std.specs.Prelude.{ℕ, ◌+◌, Bool, cond, ◌&&◌, leb}
use Rattle.base.specs.Flags.{has, ALPHABETIC, ACCENTUATED}
use Rattle.base.specs.Numbers.{bump}
use Rattle.classes.specs.declared.Class.{Class}
use Rattle.ratio.specs.declared.Fraction.{Fraction}
use Rattle.ratio.specs.declared.Counts.{Counts}
use Rattle.ratio.specs.Fraction.{counts_of, at_least}
use Rattle.md_counts.specs.declared.too_many_accentuated.TooManyAccentuated.{TooManyAccentuated}

abbrev pub start : TooManyAccentuated
start = record { characters = 0; accentuated = 0 }

-- one letter more
unfoldable pub counted : TooManyAccentuated → Class → TooManyAccentuated
counted s c =
    record {
      characters = s.characters + 1;
      accentuated = s.accentuated + bump (has c.flags ACCENTUATED);
    }

unfoldable pub feed : TooManyAccentuated → Class → TooManyAccentuated
feed s c = cond (has c.flags ALPHABETIC) (counted s c) s

-- below so many letters the ratio is 0
abbrev pub FEWEST : ℕ
FEWEST = 8

-- below this part of all the ratio is 0
abbrev pub LEAST_PART : ℕ
LEAST_PART = 7

abbrev pub LEAST_WHOLE : ℕ
LEAST_WHOLE = 20

-- "accented/n"
abbrev pub share : TooManyAccentuated → Fraction
share s = record { num = s.accentuated; den = s.characters }

-- "0 if n < 8 or below 7/20"
abbrev pub keeps : TooManyAccentuated → Bool
keeps s = leb FEWEST s.characters && at_least LEAST_PART LEAST_WHOLE (share s)

unfoldable pub counts : TooManyAccentuated → Counts
counts s = counts_of (share s) (keeps s)
