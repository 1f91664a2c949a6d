-- When coherence_ratio refuses (01, "Refusal numbers"): its causes in the order "1, 4, 5, 7, 8, 9, 3, 6". The laws stand in proofs/Laws/Causes.
-- Assumes nothing.
use Rattle.std.specs.Prelude.{ℕ, ◌*◌, ◌||◌, List, [], ◌∷◌, ltb, Float, length, Result, ⊤}
use Rattle.base.specs.declared.Refusal.{Refusal}
use Rattle.base.specs.Causes.{given, first_of}
use Rattle.base.specs.Limits.{LONGEST_RANKED, WORK_PER_POINT}
use Rattle.base.specs.declared.refusals.Cause.TheVariants.{TooLong, NoRoom, Unclassed}
use Rattle.classes.specs.Check.{bad_classes}
use Rattle.classes.specs.Pairs.{bad_pairs}
use Rattle.cd_languages.specs.Check.{bad_languages}
use Rattle.cd_languages.specs.Included.{bad_included}
use Rattle.cd_languages.specs.Languages.{languages}
use Rattle.ratio.specs.Finite.{not_finite}
use Rattle.cd_taken_meaning.specs.Unclassed.{first_unclassed}

-- 1: "coherence over 8,192 code points"
unfoldable pub too_long : List ℕ → Result ⊤ Refusal
too_long text = given (ltb LONGEST_RANKED (length text)) TooLong 0

-- 3: "lent output or work area too short": room for fewer matches than there are language records, or fewer words of work than 8 a
-- code point (02 [4])
unfoldable pub no_room : (text t : List ℕ) (work room : ℕ) → Result ⊤ Refusal
no_room text t work room = given (ltb room (languages t) || ltb work (WORK_PER_POINT * length text)) NoRoom 0

-- 6: "code point in no record", "also .. for a taken character whose lower case has no class, at the first index of either kind"; "and 6 at the index
-- of U+0130 if U+0307 has no class" (02 [4])
unfoldable pub no_class : (classes text : List ℕ) → Result ⊤ Refusal
no_class classes text = given (ltb (first_unclassed classes text) (length text)) Unclassed (first_unclassed classes text)

-- 3, 6
abbrev pub of_text : (text classes t : List ℕ) (work room : ℕ) → List (Result ⊤ Refusal)
of_text text classes t work room = no_room text t work room ∷ no_class classes text ∷ []

-- 8: "language table not good"; 9: "over 64 included numbers, or one not in the table"; 3, 6
abbrev pub of_languages : (text classes t included : List ℕ) (work room : ℕ) → List (Result ⊤ Refusal)
of_languages text classes t included work room =
    bad_languages t ∷ bad_included included t ∷ of_text text classes t work room

-- 5: "class table not good"; 7, 8, 9, 3, 6
abbrev pub of_tables : (text classes pairs t included : List ℕ) (work room : ℕ) → List (Result ⊤ Refusal)
of_tables text classes pairs t included work room =
    bad_classes classes ∷ bad_pairs pairs ∷ of_languages text classes t included work room

-- 1, 4, 5, 7, 8, 9, 3, 6
unfoldable pub causes : (text : List ℕ) (threshold : Float) (classes pairs t included : List ℕ) (work room : ℕ) → Result ⊤ Refusal
causes text threshold classes pairs t included work room =
    first_of (too_long text ∷ not_finite threshold ∷ of_tables text classes pairs t included work room)

-- the same without a threshold, and so without 4
unfoldable pub causes_default : (text classes pairs t included : List ℕ) (work room : ℕ) → Result ⊤ Refusal
causes_default text classes pairs t included work room =
    first_of (too_long text ∷ of_tables text classes pairs t included work room)
