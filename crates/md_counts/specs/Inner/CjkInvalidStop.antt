-- Words of inner contracts, beside CjkInvalidStop: `Room`, `feed_run`. No public promise rests on them.
-- Assumes nothing.
use Rattle.std.specs.Prelude.{ℕ, ◌+◌, ◌≤◌, cond}
use Rattle.base.specs.Flags.{has, CJK}
use Rattle.ratio.specs.Inner.Fraction.{MOST_NUM}
use Rattle.md_counts.specs.declared.cjk_invalid_stop.CjkInvalidStop.{CjkInvalidStop}

-- room for one character more in each count
pub record Room (s : CjkInvalidStop) : Type 0 where
  pub wrong : s.wrong ≤ MOST_NUM
  pub cjk : s.cjk ≤ MOST_NUM

-- m characters with the same flags, none of them a wrong stop
unfoldable pub feed_run : CjkInvalidStop → ℕ → ℕ → CjkInvalidStop
feed_run s f m = record { wrong = s.wrong; cjk = s.cjk + cond (has f CJK) m 0 }
