-- The check of a lent language table (01, "Refusal numbers", 8, "as 5"): how many records it has, or the refusal of one that is not good. "Length
-- and number come before records"; the place is that of the "first bad record; for length or number, 0".
-- Assumes nothing.
use Rattle.std.specs.Prelude.{ℕ, ◌%◌, List, [], ◌∷◌, not, length, ltb, eqb, Result, ⊤}
use Rattle.base.specs.declared.Refusal.{Refusal}
use Rattle.base.specs.Causes.{given, first_of}
use Rattle.base.specs.Counted.{count_unless}
use Rattle.base.specs.Limits.{LANGUAGE_RECORD, MOST_LANGUAGES}
use Rattle.base.specs.declared.refusals.Cause.TheVariants.{BadLanguages}
use Rattle.cd_languages.specs.Languages.{languages, first_bad}

-- 8: its length, its number of records, its first bad record
unfoldable pub bad_languages : List ℕ → Result ⊤ Refusal
bad_languages t =
    first_of (
    given (not (eqb (length t % LANGUAGE_RECORD) 0)) BadLanguages 0
    ∷ given (ltb MOST_LANGUAGES (languages t)) BadLanguages 0
    ∷ given (ltb (first_bad t) (languages t)) BadLanguages (first_bad t)
    ∷ [])

unfoldable pub checked : List ℕ → Result ℕ Refusal
checked t = count_unless (bad_languages t) (languages t)
