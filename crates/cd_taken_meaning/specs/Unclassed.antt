-- Refusal 6 in coherence: "code point in no record", and "In coherence 6 is also given for a taken character whose lower case has no class, at the
-- first index of either kind" (01, Refusal numbers); "and 6 at the index of U+0130 if U+0307 has no class" (02 [4]), which is one of the letters that
-- it lowers to. The lower case of a character that is not taken is never asked for.
-- Assumes nothing.
use Rattle.std.specs.Prelude.{ℕ, Bool, true, false, ◌&&◌, ◌||◌, List, [], ◌∷◌, length, get_or, Option, Some, None}
use Rattle.base.specs.First.{first}
use Rattle.classes.specs.Lookup.{class_of, missing}
use Rattle.cd_taken_meaning.specs.Taken.{is_taken, lowered}
use Rattle.classes.specs.declared.Class.{Class}

-- some of the letters has no class
unfoldable pub some_missing : List ℕ → List ℕ → Bool
some_missing classes [] = false
some_missing classes (x ∷ xs) = missing (class_of classes x) || some_missing classes xs

-- a character for which 6 is given, by what the lookup finds for it
unfoldable pub unclassed : List ℕ → Option Class → Bool
unclassed classes (Some c) = is_taken c && some_missing classes (lowered c)
unclassed classes None = true

unfoldable pub unclassed_at : List ℕ → List ℕ → ℕ → Bool
unclassed_at classes text i = unclassed classes (class_of classes (get_or text i 0))

-- the place of the refusal; the length of the text where there is none
unfoldable pub first_unclassed : List ℕ → List ℕ → ℕ
first_unclassed classes text = first (unclassed_at classes text) (length text)
