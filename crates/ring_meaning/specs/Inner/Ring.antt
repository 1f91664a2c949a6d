-- Words of inner contracts, beside Ring: `GoodRing`. No public promise rests on them.
-- Assumes nothing.
use Rattle.std.specs.Prelude.{ℕ, ◌*◌, ◌≤◌, ◌<◌, ◌≡◌, List, length}
use Rattle.ring_meaning.specs.Record.{RECORD}
use Rattle.ring_meaning.specs.Ring.{MOST_SLOTS, slots}

-- a ring of good size
pub record GoodSize (ring : List ℕ) : Type 0 where
  pub whole : length ring ≡ RECORD * slots ring
  pub some : 0 < slots ring
  pub few : slots ring ≤ MOST_SLOTS

-- and with a head below the size and a count that is not above it
pub record GoodRing (ring : List ℕ) (head count : ℕ) : Type 0 where
  pub size : GoodSize ring
  pub inside : head < slots ring
  pub held : count ≤ slots ring
