-- Worked out. Three texts with no class records: both kinds of refusal 6 of 01 are met, and the first index of either is told. U+0181 is in the
-- built-in table, is taken, and has its lower case, U+0253, past it; U+0253 itself has no class. And 02 [4]: U+0130 is taken whatever the class table,
-- with its two letters; where U+0307 has no class, 6 is given at its index.
-- Assumes nothing.
use Rattle.std.specs.Prelude.{Some}
use Prim.Native.Nat.{ℕ}
use mathlib.Core.Path.{◌≡◌, refl, ap, ◌∙◌}
use mathlib.Core.List.{List, [], ◌∷◌}
use lib.Dec.{lit<}
use Rattle.base.specs.First.{first, seek}
use Rattle.base.specs.Flags.{has}
use Rattle.class_builtin.specs.Table.{entry_at}
use Rattle.class_builtin.specs.Words.{flag_words, range_numbers, bases, lowers}
use Rattle.classes.specs.Lookup.{class_of, builtin_class, lent_class}
use Rattle.classes.proofs.Laws.Lookup.{class_builtin}
use Rattle.class_records.specs.Records.{holder}
use Rattle.cd_taken_meaning.specs.Taken.{CAPITAL_I_WITH_DOT, is_taken, lowered, taken_letters}
use Rattle.cd_taken_meaning.specs.Unclassed.{some_missing, unclassed, unclassed_at, first_unclassed}

pub lower_case_unclassed : first_unclassed [] (0x61 ∷ 0x181 ∷ []) ≡ 1
unfolding first_unclassed unclassed_at unclassed some_missing is_taken lowered first seek has class_of builtin_class lent_class holder entry_at flag_words range_numbers bases lowers
lower_case_unclassed = refl

pub itself_unclassed : first_unclassed [] (0x61 ∷ 0x62 ∷ 0x253 ∷ []) ≡ 2
unfolding first_unclassed unclassed_at unclassed some_missing is_taken lowered first seek has class_of builtin_class lent_class holder entry_at flag_words range_numbers bases lowers
itself_unclassed = refl

-- "at the first index of either kind": a lower case without a class, and behind it a character without one
pub either_unclassed : first_unclassed [] (0x181 ∷ 0x253 ∷ []) ≡ 0
unfolding first_unclassed unclassed_at unclassed some_missing is_taken lowered first seek has class_of builtin_class lent_class holder entry_at flag_words range_numbers bases lowers
either_unclassed = refl

pub dot_unclassed : first_unclassed [] (0x61 ∷ 0x130 ∷ []) ≡ 1
unfolding first_unclassed unclassed_at unclassed some_missing is_taken lowered first seek has class_of builtin_class lent_class holder entry_at flag_words range_numbers bases lowers
dot_unclassed = refl

capital_i : taken_letters (Some (builtin_class CAPITAL_I_WITH_DOT)) ≡ record { range = 4; letters = 0x69 ∷ 0x307 ∷ [] } ∷ []
unfolding taken_letters is_taken lowered has builtin_class entry_at flag_words range_numbers bases lowers
capital_i = refl

pub capital_i_taken : (classes : List ℕ) → taken_letters (class_of classes CAPITAL_I_WITH_DOT) ≡ record { range = 4; letters = 0x69 ∷ 0x307 ∷ [] } ∷ []
capital_i_taken classes = ap taken_letters (class_builtin classes CAPITAL_I_WITH_DOT (lit< tt)) ∙ capital_i
