-- Unprintable (01): "8u/n", u the unprintable ones of the n characters fed. The Rust's UnprintablePlugin. The laws stand in proofs/Laws/Unprintable.
-- Assumes nothing.
use Rattle.std.specs.Prelude.{ℕ, ◌+◌, ◌*◌, true}
use Rattle.base.specs.Flags.{has, UNPRINTABLE}
use Rattle.base.specs.Numbers.{bump}
use Rattle.classes.specs.declared.Class.{Class}
use Rattle.ratio.specs.declared.Fraction.{Fraction}
use Rattle.ratio.specs.declared.Counts.{Counts}
use Rattle.ratio.specs.Fraction.{counts_of}
use Rattle.md_counts.specs.declared.unprintable.Unprintable.{Unprintable}

abbrev pub start : Unprintable
start = record { characters = 0; unprintable = 0 }

unfoldable pub feed : Unprintable → Class → Unprintable
feed s c =
    record {
      characters = s.characters + 1;
      unprintable = s.unprintable + bump (has c.flags UNPRINTABLE);
    }

-- an unprintable character is worth so many
abbrev pub WORTH : ℕ
WORTH = 8

-- "8u/n"
abbrev pub share : Unprintable → Fraction
share s = record { num = WORTH * s.unprintable; den = s.characters }

unfoldable pub counts : Unprintable → Counts
counts s = counts_of (share s) true
