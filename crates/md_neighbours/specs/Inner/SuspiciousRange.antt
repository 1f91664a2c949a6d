-- Words of inner contracts, beside SuspiciousRange: `Room`, `feed_run`. No public promise rests on them.
-- Assumes nothing.
use Rattle.std.specs.Prelude.{ℕ, ◌+◌, ◌-◌, ◌≤◌, Bool, true, cond, ◌&&◌}
use Rattle.base.specs.Numbers.{bump}
use Rattle.ratio.specs.Inner.Fraction.{MOST_NUM}
use Rattle.md_neighbours.specs.declared.suspicious_range.SuspiciousRange.{SuspiciousRange}

-- room for one character more in each count
pub record Room (s : SuspiciousRange) : Type 0 where
  pub characters : s.characters ≤ MOST_NUM
  pub suspicious : s.suspicious ≤ MOST_NUM

-- m printable characters of one range that do not forget, at least one. `suspicious` is as for `feed`, of the first; `again` is the same of the range after itself
unfoldable pub feed_run : SuspiciousRange → ℕ → ℕ → Bool → Bool → SuspiciousRange
feed_run s range m suspicious again =
    record {
      characters = s.characters + m;
      suspicious = s.suspicious + bump (s.seen && suspicious) + cond again (m - 1) 0;
      seen = true;
      last = range;
    }
