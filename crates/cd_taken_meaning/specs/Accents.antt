-- "a layer with an ACCENTUATED lowered letter" (01, Layers and rankings): whether a list of letters has one. A letter without a class has none; those
-- of an accepted text all have one.
-- Assumes nothing.
use Rattle.std.specs.Prelude.{ℕ, Bool, false, ◌||◌, List, [], ◌∷◌, Option, Some, None}
use Rattle.base.specs.Flags.{has, ACCENTUATED}
use Rattle.classes.specs.Lookup.{class_of}
use Rattle.classes.specs.declared.Class.{Class}

unfoldable pub is_accentuated : Option Class → Bool
is_accentuated (Some c) = has c.flags ACCENTUATED
is_accentuated None = false

unfoldable pub some_accented : List ℕ → List ℕ → Bool
some_accented classes [] = false
some_accented classes (x ∷ xs) = is_accentuated (class_of classes x) || some_accented classes xs
