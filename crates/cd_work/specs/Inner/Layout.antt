-- The layout of the work area of a ranking: four parts of one word a slot, one behind the other. A slot is a letter of the text. The parts are the
-- slots' ranges, in whose place come the layers' numbers; the lowered letters; what the letters of the layer that is read lack; and these letters,
-- ranked.
-- Assumes nothing.
use Rattle.std.specs.Prelude.{ℕ, ◌*◌}

-- words of the area for each slot: one in each part
abbrev pub WORDS_PER_SLOT : ℕ
WORDS_PER_SLOT = 4

-- the words that so many slots need
abbrev pub words : ℕ → ℕ
words slots = WORDS_PER_SLOT * slots

-- where each part starts
abbrev pub numbers_start : ℕ → ℕ
numbers_start slots = 0

abbrev pub letters_start : ℕ → ℕ
letters_start slots = slots

abbrev pub lacks_start : ℕ → ℕ
lacks_start slots = 2 * slots

abbrev pub order_start : ℕ → ℕ
order_start slots = 3 * slots
