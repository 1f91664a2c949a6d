-- "Bit-24 characters with a nonzero range are taken, lowered, in text order" (01, Layers and rankings; cd.rs: alpha_unicode_split). The range is
-- the character's own, "before lowering".
-- "Both enter its layer" of U+0130's two (02 [4]).
-- Not here: which layer a taken character joins (crate layers); what is said of a character that has no class, which is refused (Unclassed).
-- Assumes nothing.
use Rattle.std.specs.Prelude.{ℕ, Bool, cond, not, ◌&&◌, List, [], ◌∷◌, ◌++◌, eqb, Option, Some, None}
use Rattle.base.specs.Flags.{has, CHAR_ALPHABETIC}
use Rattle.classes.specs.declared.Class.{Class}
use Rattle.classes.specs.Lookup.{class_of}
use Rattle.cd_layers.specs.Layers.{Taken}

unfoldable pub is_taken : Class → Bool
is_taken c = has c.flags CHAR_ALPHABETIC && not (eqb c.range 0)

-- U+0130, and the combining dot above
abbrev pub CAPITAL_I_WITH_DOT : ℕ
CAPITAL_I_WITH_DOT = 0x130

abbrev pub DOT_ABOVE : ℕ
DOT_ABOVE = 0x307

-- what a character lowers to: "Each letter has one lower-case letter" (01), its class's; but "two for U+0130, U+0069 and U+0307" (02 [4]), in that
-- order. U+0069 is what the built-in table has for U+0130; U+0307 stands in no table's entry for it, but here.
unfoldable pub lowered : Class → List ℕ
lowered c = c.lower ∷ cond (eqb c.point CAPITAL_I_WITH_DOT) (DOT_ABOVE ∷ []) []

-- what one character gives
unfoldable pub taken_letters : Option Class → List Taken
taken_letters (Some c) = cond (is_taken c) (record { range = c.range; letters = lowered c } ∷ []) []
taken_letters None = []

-- the taken characters of a text, in text order
unfoldable pub taken_chars : List ℕ → List ℕ → List Taken
taken_chars classes [] = []
taken_chars classes (p ∷ text) = taken_letters (class_of classes p) ++ taken_chars classes text
