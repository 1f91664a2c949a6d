-- Words of inner contracts, beside Growth: `Watchable`. No public promise rests on them.
-- Assumes nothing.
use Rattle.std.specs.Prelude.{Bool}
use Rattle.classes.specs.declared.Class.{Class}
use Rattle.md_eight.specs.Detectors.{feed}
use Rattle.md_eight.specs.Inner.Detectors.{Room, Countable}
use Rattle.md_growth.specs.declared.Watched.{Watched}

-- the eight have room for the character, and their counts can be told before it and after it
pub record Watchable (w : Watched) (c : Class) (suspicious : Bool) : Type 0 where
  pub room : Room w.eight
  pub before : Countable w.eight
  pub after : Countable (feed w.eight c suspicious)
