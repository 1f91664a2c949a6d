-- mess_ratio, for every input: the first of 01's causes of refusal in the order of scoring, "1, 4, 5, 7, 6", or the score of a text that is
-- accepted (Scan).
-- Assumes nothing.
use Rattle.std.specs.Prelude.{ℕ, List, [], ◌∷◌, ltb, Float, length, Result, Some, None, ⊤}
use Rattle.std.specs.Float.Ieee.{of_bits}
use Rattle.std.specs.Float.{binary32}
use Rattle.base.specs.declared.Refusal.{Refusal}
use Rattle.base.specs.Causes.{given, first_of}
use Rattle.base.specs.Limits.{LONGEST_TEXT}
use Rattle.base.specs.declared.refusals.Cause.TheVariants.{TooLong}
use Rattle.classes.specs.Check.{bad_classes}
use Rattle.classes.specs.Pairs.{bad_pairs}
use Rattle.ratio.specs.Finite.{not_finite}
use Rattle.md_meaning.specs.Scan.{unless, no_class, accepted_score}
use Rattle.md_meaning.specs.declared.Score.{Score}

-- "A call without a threshold now uses f32 0.15" (02 [5]; 01 had 0.2)
abbrev pub DEFAULT_THRESHOLD : Float
DEFAULT_THRESHOLD = of_bits binary32 0x3E19999A

-- 1: "over .. 65,536 code points"
unfoldable pub too_long : List ℕ → Result ⊤ Refusal
too_long text = given (ltb LONGEST_TEXT (length text)) TooLong 0

-- 1, 4, 5, 7, 6
abbrev pub of_scoring : List ℕ → Float → List ℕ → List ℕ → List (Result ⊤ Refusal)
of_scoring text threshold classes pairs =
    too_long text ∷ not_finite threshold ∷ bad_classes classes ∷ bad_pairs pairs ∷ no_class classes text ∷ []

unfoldable pub causes : List ℕ → Float → List ℕ → List ℕ → Result ⊤ Refusal
causes text threshold classes pairs = first_of (of_scoring text threshold classes pairs)

-- the same without a threshold, and so without 4
abbrev pub of_scoring_default : List ℕ → List ℕ → List ℕ → List (Result ⊤ Refusal)
of_scoring_default text classes pairs = too_long text ∷ bad_classes classes ∷ bad_pairs pairs ∷ no_class classes text ∷ []

unfoldable pub causes_default : List ℕ → List ℕ → List ℕ → Result ⊤ Refusal
causes_default text classes pairs = first_of (of_scoring_default text classes pairs)

unfoldable pub mess_ratio : List ℕ → Float → List ℕ → List ℕ → Result Score Refusal
mess_ratio text threshold classes pairs =
    unless (causes text threshold classes pairs) (accepted_score classes pairs text (Some threshold))

unfoldable pub mess_ratio_default : List ℕ → List ℕ → List ℕ → Result Score Refusal
mess_ratio_default text classes pairs =
    unless (causes_default text classes pairs) (accepted_score classes pairs text (Some DEFAULT_THRESHOLD))

-- "scored whole and without stopping", for the chooser
unfoldable pub whole_score : List ℕ → List ℕ → List ℕ → Result Score Refusal
whole_score text classes pairs = unless (causes_default text classes pairs) (accepted_score classes pairs text None)
