-- Words of inner contracts, beside State: `Sound`, what a state has that is not refused by 19. No public promise rests on them.
-- Assumes nothing.
use Rattle.std.specs.Prelude.{ℕ, ◌*◌, ◌≤◌, ◌<◌, ◌≡◌, true, length, get_or}
use Rattle.base.specs.Limits.{LONGEST_TEXT, LAST_RANGE}
use Rattle.ratio.specs.Finite.{is_finite}
use Rattle.md_eight.specs.Detectors.{last_range}
use Rattle.md_running_meaning.specs.declared.Running.{Running}
use Rattle.md_running_meaning.specs.State.{TWICE, eight_of, counts_in}

pub record Sound (s : Running) : Type 0 where
  pub finite : is_finite s.threshold ≡ true
  pub short : s.length ≤ LONGEST_TEXT
  pub declared : s.received ≤ s.length
  pub range : last_range (eight_of s) ≤ LAST_RANGE
  pub counts : (i : ℕ) → i < length (counts_in s) → get_or (counts_in s) i 0 ≤ TWICE * s.received
