-- Doubled accents (01): "ALPHABETIC and LATIN. 2s/n; of two accented neighbours, both upper-case add 1, and equal bases add 1." The Rust's
-- SuspiciousDuplicateAccentPlugin: neighbours among the characters that it is fed, so that a space or a digit between two letters does
-- not part them. The laws stand in proofs/Laws/SuspiciousDuplicateAccent.
-- Assumes nothing.
use Rattle.std.specs.Prelude.{ℕ, ◌+◌, ◌*◌, Bool, true, cond, ◌&&◌, eqb}
use Rattle.base.specs.Flags.{has, ALPHABETIC, LATIN, ACCENTUATED, UPPERCASE}
use Rattle.base.specs.Numbers.{bump}
use Rattle.classes.specs.declared.Class.{Class}
use Rattle.ratio.specs.declared.Fraction.{Fraction}
use Rattle.ratio.specs.declared.Counts.{Counts}
use Rattle.ratio.specs.Fraction.{counts_of}
use Rattle.md_neighbours.specs.declared.suspicious_duplicate_accent.SuspiciousDuplicateAccent.{SuspiciousDuplicateAccent}

-- no last letter: flags 0, which are not those of an accented one
abbrev pub start : SuspiciousDuplicateAccent
start = record { characters = 0; successive = 0; flags = 0; base = 0 }

unfoldable pub latin_letter : ℕ → Bool
latin_letter flags = has flags ALPHABETIC && has flags LATIN

-- a letter and the last one both have the flag
unfoldable pub both : SuspiciousDuplicateAccent → ℕ → ℕ → Bool
both s flags bit = has flags bit && has s.flags bit

-- a Latin letter
unfoldable pub letter : SuspiciousDuplicateAccent → Class → SuspiciousDuplicateAccent
letter s c =
    record {
      characters = s.characters + 1;
      successive =
          s.successive
          + bump (both s c.flags ACCENTUATED && both s c.flags UPPERCASE)
          + bump (both s c.flags ACCENTUATED && eqb c.base s.base);
      flags = c.flags;
      base = c.base;
    }

unfoldable pub feed : SuspiciousDuplicateAccent → Class → SuspiciousDuplicateAccent
feed s c = cond (latin_letter c.flags) (letter s c) s

-- what neighbours add is worth so many
abbrev pub WORTH : ℕ
WORTH = 2

-- "2s/n"
abbrev pub share : SuspiciousDuplicateAccent → Fraction
share s = record { num = WORTH * s.successive; den = s.characters }

unfoldable pub counts : SuspiciousDuplicateAccent → Counts
counts s = counts_of (share s) true
