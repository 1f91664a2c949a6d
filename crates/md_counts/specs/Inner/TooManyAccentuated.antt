-- Words of inner contracts, beside TooManyAccentuated: `Room`, `counted_run`, `feed_run`. No public promise rests on them.
-- Assumes nothing.
use Rattle.std.specs.Prelude.{ℕ, ◌+◌, ◌≤◌, cond}
use Rattle.base.specs.Flags.{has, ALPHABETIC, ACCENTUATED}
use Rattle.ratio.specs.Inner.Fraction.{MOST_NUM}
use Rattle.md_counts.specs.declared.too_many_accentuated.TooManyAccentuated.{TooManyAccentuated}

-- room for one character more in each count
pub record Room (s : TooManyAccentuated) : Type 0 where
  pub characters : s.characters ≤ MOST_NUM
  pub accentuated : s.accentuated ≤ MOST_NUM

-- m letters more with the same flags
unfoldable pub counted_run : TooManyAccentuated → ℕ → ℕ → TooManyAccentuated
counted_run s f m = record { characters = s.characters + m; accentuated = s.accentuated + cond (has f ACCENTUATED) m 0 }

-- m characters with the same flags
unfoldable pub feed_run : TooManyAccentuated → ℕ → ℕ → TooManyAccentuated
feed_run s f m = cond (has f ALPHABETIC) (counted_run s f m) s
