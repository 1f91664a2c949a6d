-- Archaic case (01): "as the source, with its first branch only if the running count is above 0; a leading space is thus counted as a
-- letter seen." Branch by branch from the Rust's ArchaicUpperLowerPlugin. `last_alpha_seen` is its flags, 0 for none: with none the case
-- does not change, and `buf`, which the source then leaves, is false in every state that feeding reaches (`archaic_as_source`).
-- The laws stand in proofs/Laws/ArchaicUpperLower.
-- Assumes nothing.
use Rattle.std.specs.Prelude.{ℕ, ◌+◌, Bool, false, true, cond, not, ◌&&◌, ◌||◌, leb, ltb}
use Rattle.base.specs.Flags.{has, ASCII, ASCII_DIGIT, ALPHABETIC, CASE_VARIABLE, LOWERCASE, UPPERCASE}
use Rattle.classes.specs.declared.Class.{Class}
use Rattle.ratio.specs.declared.Fraction.{Fraction}
use Rattle.ratio.specs.declared.Counts.{Counts}
use Rattle.ratio.specs.Fraction.{counts_of}
use Rattle.md_words.specs.declared.archaic_upper_lower.ArchaicUpperLower.{ArchaicUpperLower}

-- "character_count_since_last_sep <= 64"
abbrev pub LONGEST_RUN : ℕ
LONGEST_RUN = 64

-- nothing was fed; `current_ascii_only` starts true
abbrev pub start : ArchaicUpperLower
start = record { characters = 0; since = 0; run = 0; total = 0; last = 0; ascii = true; buf = false }

-- the first branch's test: no letter that has case, and "the running count is above 0"
unfoldable pub separates : ArchaicUpperLower → ℕ → Bool
separates s f = not (has f ALPHABETIC && has f CASE_VARIABLE) && ltb 0 s.since

-- the run is added: it is not too long, the separator is no digit, and not all was ASCII
unfoldable pub counted : ArchaicUpperLower → ℕ → Bool
counted s f = leb s.since LONGEST_RUN && not (has f ASCII_DIGIT) && not s.ascii

-- the first branch
unfoldable pub separator : ArchaicUpperLower → ℕ → ArchaicUpperLower
separator s f =
    record {
      characters = s.characters + 1;
      since = 0;
      run = 0;
      total = s.total + cond (counted s f) s.run 0;
      last = 0;
      ascii = true;
      buf = false;
    }

-- UPPERCASE after LOWERCASE, or LOWERCASE after UPPERCASE
unfoldable pub changes : ℕ → ℕ → Bool
changes last f = (has f UPPERCASE && has last LOWERCASE) || (has f LOWERCASE && has last UPPERCASE)

-- the second branch: of two changes that follow each other the second adds 2
unfoldable pub letter : ArchaicUpperLower → ℕ → ArchaicUpperLower
letter s f =
    record {
      characters = s.characters + 1;
      since = s.since + 1;
      run = s.run + cond (changes s.last f && s.buf) 2 0;
      total = s.total;
      last = f;
      ascii = s.ascii && has f ASCII;
      buf = changes s.last f && not s.buf;
    }

unfoldable pub feed : ArchaicUpperLower → Class → ArchaicUpperLower
feed s c = cond (separates s c.flags) (separator s c.flags) (letter s c.flags)

-- the runs counted over all characters
abbrev pub share : ArchaicUpperLower → Fraction
share s = record { num = s.total; den = s.characters }

unfoldable pub counts : ArchaicUpperLower → Counts
counts s = counts_of (share s) true
