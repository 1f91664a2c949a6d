-- The included language numbers (01, "Refusal numbers", 9): "over 64 included numbers, or one not in the table (a lone 0 is allowed)", the place "0,
-- or its index". A number may stand several times. The answer of a list that is allowed is how many numbers it has.
-- Assumes nothing.
use Rattle.std.specs.Prelude.{ℕ, List, [], ◌∷◌, Bool, not, ◌&&◌, length, get_or, ltb, eqb, Result, ⊤}
use Rattle.base.specs.declared.Refusal.{Refusal}
use Rattle.base.specs.Causes.{given, first_of}
use Rattle.base.specs.Counted.{count_unless}
use Rattle.base.specs.First.{first}
use Rattle.base.specs.Limits.{MOST_INCLUDED}
use Rattle.base.specs.declared.refusals.Cause.TheVariants.{BadIncluded}
use Rattle.cd_languages.specs.Languages.{languages, first_record}

-- "the single number 0 means pure Latin languages only"
unfoldable pub lone_zero : List ℕ → Bool
lone_zero included = eqb (length included) 1 && eqb (get_or included 0 0) 0

unfoldable pub in_table : List ℕ → ℕ → Bool
in_table t x = ltb (first_record t x) (languages t)

-- the first index whose number is not in the table, or how many numbers there are
unfoldable pub first_missing : List ℕ → List ℕ → ℕ
first_missing included t = first (λ i. not (in_table t (get_or included i 0))) (length included)

-- 9: how many they are, and the first that is not in the table, but for a lone 0
unfoldable pub bad_included : List ℕ → List ℕ → Result ⊤ Refusal
bad_included included t =
    first_of (
    given (ltb MOST_INCLUDED (length included)) BadIncluded 0
    ∷ given (not (lone_zero included) && ltb (first_missing included t) (length included)) BadIncluded (first_missing included t)
    ∷ [])

unfoldable pub checked_included : List ℕ → List ℕ → Result ℕ Refusal
checked_included included t = count_unless (bad_included included t) (length included)
