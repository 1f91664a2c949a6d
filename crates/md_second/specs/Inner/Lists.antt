-- Words of inner contracts: lists of what the characters are, from which the detectors are counted. `class_here` and its parts, `Fits`, `Known`, `Laid`.
-- No public promise rests on them.
-- Assumes nothing.
use Rattle.std.specs.Prelude.{ℕ, ◌≤◌, ◌<◌, ◌≡◌, List, length, get_or}
use Rattle.base.specs.Limits.{LAST_RANGE}
use Rattle.classes.specs.declared.Class.{Class}
use Rattle.md_meaning.specs.Text.{char_at}
use Rattle.md_meaning.specs.Scan.{class_in, class_at}

-- the class of the character at i; one that has none is nothing but itself
abbrev pub class_here : List ℕ → List ℕ → ℕ → Class
class_here classes text i = class_in (char_at text i) (class_at classes text i)

-- and what the lists have of it
abbrev pub point_at : List ℕ → List ℕ → ℕ → ℕ
point_at classes text i = (class_here classes text i).point

abbrev pub flags_at : List ℕ → List ℕ → ℕ → ℕ
flags_at classes text i = (class_here classes text i).flags

abbrev pub range_at : List ℕ → List ℕ → ℕ → ℕ
range_at classes text i = (class_here classes text i).range

abbrev pub base_at : List ℕ → List ℕ → ℕ → ℕ
base_at classes text i = (class_here classes text i).base

-- the characters of the longest text, the newline counted
abbrev pub ROOM : ℕ
ROOM = 4097

-- the list has n characters, and they are no more than a text has
pub record Fits (list : List ℕ) (n : ℕ) : Type 0 where
  pub room : n ≤ ROOM
  pub long : n ≤ length list

-- the pair table knows the first n ranges
abbrev pub Known : List ℕ → ℕ → Type 0
Known ranges n = (j : ℕ) → j < n → get_or ranges j 0 ≤ LAST_RANGE

-- the list has f's values in its first n places
pub record Laid (f : ℕ → ℕ) (n : ℕ) (list : List ℕ) : Type 0 where
  pub long : length list ≡ ROOM
  pub at : (j : ℕ) → j < n → get_or list j 0 ≡ f j
