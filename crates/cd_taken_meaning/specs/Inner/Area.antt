-- What the work area holds of a text. Each letter that a code point lowers to has a slot: U+0130 has two, every other code point one. A slot has the
-- code point's own range, 0 where it is not taken; and its letter. That the layers of these are those of the taken characters of 01 and 02 is
-- `split_taken` in Laws.Area.
-- Assumes nothing.
use Rattle.std.specs.Prelude.{ℕ, ◌+◌, ◌≤◌, cond, List, [], ◌∷◌, length, eqb, Option, Some, None}
use Rattle.base.specs.Limits.{LONGEST_RANKED}
use Rattle.classes.specs.Lookup.{class_of}
use Rattle.cd_work.specs.Inner.Parts.{with_text, letters_in}
use Rattle.cd_letters.specs.Letters.{count}
use Rattle.cd_taken_meaning.specs.Taken.{is_taken, CAPITAL_I_WITH_DOT, DOT_ABOVE}
use Rattle.cd_taken_meaning.specs.declared.Letter.{Letter}
use Rattle.classes.specs.declared.Class.{Class}

-- how many slots a text has: one for each code point, and one more for each U+0130
abbrev pub slots_of : List ℕ → ℕ
slots_of text = length text + count CAPITAL_I_WITH_DOT text

-- the first letter of a character and its range
unfoldable pub letter_of : Option Class → Letter
letter_of (Some c) = record { range = cond (is_taken c) c.range 0; lower = cond (is_taken c) c.lower 0 }
letter_of None = record { range = 0; lower = 0 }

-- x in the slot of the code point p, y in its second slot where it has one, and the slots behind them
abbrev pub in_slots : ℕ → ℕ → ℕ → List ℕ → List ℕ
in_slots p x y behind = x ∷ cond (eqb p CAPITAL_I_WITH_DOT) (y ∷ behind) behind

unfoldable pub ranges_of : List ℕ → List ℕ → List ℕ
ranges_of classes [] = []
ranges_of classes (p ∷ text) = in_slots p (letter_of (class_of classes p)).range (letter_of (class_of classes p)).range (ranges_of classes text)

unfoldable pub lowers_of : List ℕ → List ℕ → List ℕ
lowers_of classes [] = []
lowers_of classes (p ∷ text) = in_slots p (letter_of (class_of classes p)).lower DOT_ABOVE (lowers_of classes text)

-- the work area w with the ranges of a text and its lower-case letters in their parts; the rest stays
unfoldable pub filled : List ℕ → List ℕ → List ℕ → List ℕ
filled classes text w = with_text (slots_of text) w (ranges_of classes text) (lowers_of classes text)

-- of the letters in the area's slots no more than LONGEST-RANKED are others than U+0307: one for each code point
abbrev pub FewUndotted : ℕ → List ℕ → Type 0
FewUndotted slots w = slots ≤ LONGEST_RANKED + count DOT_ABOVE (letters_in slots slots w)
