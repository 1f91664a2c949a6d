-- Words of inner contracts, beside SuspiciousDuplicateAccent: `Room`, `plain`, `plain_run`, `feed_run`. No public promise rests on them.
-- Assumes nothing.
use Rattle.std.specs.Prelude.{ℕ, ◌≤◌, ◌+◌, cond}
use Rattle.ratio.specs.Inner.Fraction.{MOST_NUM}
use Rattle.classes.specs.declared.Class.{Class}
use Rattle.md_neighbours.specs.declared.suspicious_duplicate_accent.SuspiciousDuplicateAccent.{SuspiciousDuplicateAccent}
use Rattle.md_neighbours.specs.SuspiciousDuplicateAccent.{latin_letter}

-- room for one character more in each count
pub record Room (s : SuspiciousDuplicateAccent) : Type 0 where
  pub characters : s.characters ≤ MOST_NUM
  pub successive : s.successive ≤ MOST_NUM

-- a Latin letter without accent adds only to n
unfoldable pub plain : SuspiciousDuplicateAccent → Class → SuspiciousDuplicateAccent
plain s c = record { characters = s.characters + 1; successive = s.successive; flags = c.flags; base = c.base }

-- m of them with the same flags, at least one; `base` is that of the last
unfoldable pub plain_run : SuspiciousDuplicateAccent → ℕ → ℕ → ℕ → SuspiciousDuplicateAccent
plain_run s f base m = record { characters = s.characters + m; successive = s.successive; flags = f; base = base }

-- m characters with the same flags, no accented Latin letters
unfoldable pub feed_run : SuspiciousDuplicateAccent → ℕ → ℕ → ℕ → SuspiciousDuplicateAccent
feed_run s f base m = cond (latin_letter f) (plain_run s f base m) s
