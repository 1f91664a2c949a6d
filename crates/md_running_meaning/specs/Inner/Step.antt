-- Words of inner contracts, beside Feeding: `HasRoom`, `Taking`, `bad_call`. No public promise rests on them.
-- Assumes nothing.
use Rattle.std.specs.Prelude.{ℕ, ◌≤◌, ◌<◌, ◌≡◌, List, ◌∷◌, length, Result, ⊤}
use Rattle.base.specs.declared.Refusal.{Refusal}
use Rattle.base.specs.Causes.{first_of}
use Rattle.base.specs.Limits.{LONGEST_TEXT, LAST_RANGE, PAIR_BYTES}
use Rattle.classes.specs.declared.Class.{Class}
use Rattle.md_meaning.specs.Inner.Lent.{of_tables}
use Rattle.md_running_meaning.specs.declared.Running.{Running}
use Rattle.md_running_meaning.specs.State.{bad_state}
use Rattle.md_running_meaning.specs.Feeding.{line_full}
use Rattle.md_running_meaning.specs.Inner.Sound.{Sound}

-- the line has a place for one character more
pub record HasRoom (s : Running) : Type 0 where
  pub left : s.received < s.length
  pub short : s.length ≤ LONGEST_TEXT

-- a character of a known range can be fed
pub record Taking (s : Running) (c : Class) (pairs : List ℕ) : Type 0 where
  pub sound : Sound s
  pub room : HasRoom s
  pub fits : length pairs ≡ PAIR_BYTES
  pub range : c.range ≤ LAST_RANGE

-- 19, 13, 5, 7
unfoldable pub bad_call : Running → ℕ → List ℕ → List ℕ → Result ⊤ Refusal
bad_call s n classes pairs = first_of (bad_state s ∷ line_full s n ∷ of_tables classes pairs)
