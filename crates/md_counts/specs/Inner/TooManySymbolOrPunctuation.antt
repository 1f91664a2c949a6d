-- Words of inner contracts, beside TooManySymbolOrPunctuation: `Room`, `marked`, `plain`, `feed_run`. No public promise rests on them.
-- Assumes nothing.
use Rattle.std.specs.Prelude.{◌≤◌, ℕ, ◌+◌, Bool, ◌||◌}
use Rattle.ratio.specs.Inner.Fraction.{MOST_NUM}
use Rattle.base.specs.Flags.{has, PUNCTUATION, SYMBOL}
use Rattle.md_counts.specs.declared.too_many_symbol_or_punctuation.TooManySymbolOrPunctuation.{TooManySymbolOrPunctuation}

-- room for one character more in each count
pub record Room (s : TooManySymbolOrPunctuation) : Type 0 where
  pub characters : s.characters ≤ MOST_NUM
  pub punctuation : s.punctuation ≤ MOST_NUM
  pub symbols : s.symbols ≤ MOST_NUM

-- only punctuation and symbols may count
unfoldable pub marked : ℕ → Bool
marked flags = has flags PUNCTUATION || has flags SYMBOL

-- any other printable character adds only to n
unfoldable pub plain : TooManySymbolOrPunctuation → ℕ → TooManySymbolOrPunctuation
plain s point = record { characters = s.characters + 1; punctuation = s.punctuation; symbols = s.symbols; last = point }

-- m such characters, at least one, the last of them `point`
unfoldable pub feed_run : TooManySymbolOrPunctuation → ℕ → ℕ → TooManySymbolOrPunctuation
feed_run s m point = record { characters = s.characters + m; punctuation = s.punctuation; symbols = s.symbols; last = point }
