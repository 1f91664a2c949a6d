-- Scoring with a class table in the compact form, for every input (02 [9]: "Scoring accepts either form with equal answers"): the causes of scoring in
-- their order, "1, 4, 5, 7, 6", with the compact table's 5, or the score with its expansion. That the answers are equal is `compact_same` and
-- `packed_same` (proofs/Laws/Either).
-- Assumes nothing.
use Rattle.std.specs.Prelude.{ℕ, List, [], ◌∷◌, Float, Result, Some, ⊤}
use Rattle.base.specs.declared.Refusal.{Refusal}
use Rattle.base.specs.Causes.{first_of}
use Rattle.utf8_meaning.specs.Text.{text_of}
use Rattle.utf8_meaning.specs.Answer.{many_bytes, ill_formed, many_points}
use Rattle.classes.specs.Pairs.{bad_pairs}
use Rattle.ratio.specs.Finite.{not_finite}
use Rattle.md_meaning.specs.MessRatio.{DEFAULT_THRESHOLD, too_long}
use Rattle.md_meaning.specs.Scan.{accepted_score, no_class, unless}
use Rattle.class_compact_meaning.specs.Unpacked.{unpacked}
use Rattle.class_compact_meaning.specs.Check.{bad_compact}
use Rattle.md_meaning.specs.declared.Score.{Score}

module _ (c l pairs : List ℕ) where
  -- 5, 7, 6 of a text
  abbrev pub of_compact : List ℕ → List (Result ⊤ Refusal)
  of_compact text = bad_compact c l ∷ bad_pairs pairs ∷ no_class (unpacked c l) text ∷ []

  -- 1, 4, 5, 7, 6
  abbrev pub causes_compact : List ℕ → Float → Result ⊤ Refusal
  causes_compact text threshold = first_of (too_long text ∷ not_finite threshold ∷ of_compact text)

  unfoldable pub mess_ratio_compact : List ℕ → Float → Result Score Refusal
  mess_ratio_compact text threshold = unless (causes_compact text threshold) (accepted_score (unpacked c l) pairs text (Some threshold))

  -- the same without a threshold, and so without 4
  unfoldable pub mess_ratio_compact_default : List ℕ → Result Score Refusal
  mess_ratio_compact_default text =
      unless (first_of (too_long text ∷ of_compact text)) (accepted_score (unpacked c l) pairs text (Some DEFAULT_THRESHOLD))

  -- of UTF-8 bytes: the causes of reading that lie in the bytes, and then those of scoring
  abbrev pub causes_utf8_compact : List ℕ → Float → Result ⊤ Refusal
  causes_utf8_compact bytes threshold =
      first_of
      (many_bytes bytes ∷ ill_formed bytes ∷ many_points bytes ∷ too_long (text_of bytes) ∷ not_finite threshold ∷ of_compact (text_of bytes))

  unfoldable pub mess_ratio_utf8_compact : List ℕ → Float → Result Score Refusal
  mess_ratio_utf8_compact bytes threshold =
      unless (causes_utf8_compact bytes threshold) (accepted_score (unpacked c l) pairs (text_of bytes) (Some threshold))

  unfoldable pub mess_ratio_utf8_compact_default : List ℕ → Result Score Refusal
  mess_ratio_utf8_compact_default bytes =
      unless
      (first_of (many_bytes bytes ∷ ill_formed bytes ∷ many_points bytes ∷ too_long (text_of bytes) ∷ of_compact (text_of bytes)))
      (accepted_score (unpacked c l) pairs (text_of bytes) (Some DEFAULT_THRESHOLD))
