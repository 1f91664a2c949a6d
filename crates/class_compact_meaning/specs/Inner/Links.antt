-- Words of inner contracts, beside Check and Packed: how letters that were met are found again (`Linked`, `Slot`). Each of MARKS slots, one a mark, has
-- the place of the letters that came first with that mark, and each letters have two slots of their own, for what came to them later and is something
-- else: a bit of the two numbers says which of the two. So letters are met after as many turns as they have bits, whatever the letters are. No public
-- promise rests on these words.
-- Assumes nothing.
use Rattle.std.specs.Prelude.{ℕ, zero, suc, ◌+◌, ◌-◌, ◌*◌, ◌/◌, ◌%◌, ◌≤◌, ◌<◌, ◌≡◌, false, List, length, get_or}
use Rattle.base.specs.First.{first}
use Rattle.base.specs.Limits.{MOST_CLASSES}
use Rattle.class_compact_meaning.specs.Form.{letters_in, base_at, lower_at}
use Rattle.class_compact_meaning.specs.Check.{letters_are}
use Rattle.class_compact_meaning.specs.Inner.Form.{HALF, WORD}

-- how many marks there are
abbrev pub MARKS : ℕ
MARKS = 4096

-- what spreads the bases over the marks, and the letters above U+FFFF
abbrev pub SPREAD : ℕ
SPREAD = 127

abbrev pub HIGH_SPREAD : ℕ
HIGH_SPREAD = 16381

-- how many slots there are: a mark's, and two of each place from 0 on
abbrev pub LINKS : ℕ
LINKS = MARKS + 2 * (MOST_CLASSES + 1)

-- a number that is the same for the same letters, and seldom for others
unfoldable pub mark_of : ℕ → ℕ → ℕ
mark_of base lower = (base % HALF * SPREAD + (lower % HALF + lower / HALF * HIGH_SPREAD)) % MARKS

pub record Mark (base lower r : ℕ) : Type 0 where
  pub is : r ≡ mark_of base lower
  pub small : r < MARKS

-- the bits of both numbers, the lowest of `lower` first
unfoldable pub bits_of : ℕ → ℕ → ℕ
bits_of base lower = base * WORD + lower

-- those that are left after n turns
unfoldable pub bits_after : ℕ → ℕ → ℕ → ℕ
bits_after base lower zero = bits_of base lower
bits_after base lower (suc n) = bits_after base lower n / 2

-- the slot to which letters come in n turns
unfoldable pub slot_at : List ℕ → ℕ → ℕ → ℕ → ℕ
slot_at links base lower zero = mark_of base lower
slot_at links base lower (suc n) = MARKS + (2 * get_or links (slot_at links base lower n) 0 + bits_after base lower n % 2)

-- at the slot of the turn e stand other letters
pub record Passed (l links : List ℕ) (base lower e : ℕ) : Type 0 where
  pub some : 0 < get_or links (slot_at links base lower e) 0
  pub other : letters_are l base lower (get_or links (slot_at links base lower e) 0 - 1) ≡ false

-- the letters j come to their own place
pub record Held (l links : List ℕ) (j : ℕ) : Type 0 where
  pub turns : ℕ
  pub there : get_or links (slot_at links (base_at l j) (lower_at l j) turns) 0 ≡ j + 1
  pub passed : (e : ℕ) → e < turns → Passed l links (base_at l j) (lower_at l j) e

-- the first `count` letters of a list come to their own places; the places that follow each other are rising, so that a walk ends
pub record Linked (l : List ℕ) (count : ℕ) (links : List ℕ) : Type 0 where
  pub size : length links ≡ LINKS
  pub room : count ≤ MOST_CLASSES
  pub known : count ≤ letters_in l
  pub small : (s : ℕ) → get_or links s 0 ≤ count
  pub rising : (s : ℕ) → 0 < get_or links s 0 → s < MARKS + 2 * get_or links s 0
  pub held : (j : ℕ) → j < count → Held l links j

-- letters come to a slot, past other letters
pub record Walked (l : List ℕ) (count base lower : ℕ) (links : List ℕ) (slot : ℕ) : Type 0 where
  pub turns : ℕ
  pub is : slot ≡ slot_at links base lower turns
  pub passed : (e : ℕ) → e < turns → Passed l links base lower e
  pub below : slot < MARKS + 2 * (count + 1)

-- what `slot_for` ensures: letters that are among the first `count` have their place there, and of others it is the slot to be given theirs
pub record Slot (l : List ℕ) (count base lower : ℕ) (links : List ℕ) (slot : ℕ) : Type 0 where
  pub walked : Walked l count base lower links slot
  pub none : get_or links slot 0 ≡ 0 → first (letters_are l base lower) count ≡ count
  pub some : (get_or links slot 0 ≡ 0 → ⊥) → get_or links slot 0 ≡ first (letters_are l base lower) count + 1
