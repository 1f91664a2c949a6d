-- Words of inner contracts, beside Unprintable: `Room`, `feed_run`. No public promise rests on them.
-- Assumes nothing.
use Rattle.std.specs.Prelude.{ℕ, ◌+◌, ◌≤◌}
use Rattle.ratio.specs.Inner.Fraction.{MOST_NUM}
use Rattle.md_counts.specs.declared.unprintable.Unprintable.{Unprintable}

-- room for one character more in each count
pub record Room (s : Unprintable) : Type 0 where
  pub characters : s.characters ≤ MOST_NUM
  pub unprintable : s.unprintable ≤ MOST_NUM

-- m printable characters
unfoldable pub feed_run : Unprintable → ℕ → Unprintable
feed_run s m = record { characters = s.characters + m; unprintable = s.unprintable }
