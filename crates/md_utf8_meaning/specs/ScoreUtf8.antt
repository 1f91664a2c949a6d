-- Scoring of UTF-8 bytes in one call: the causes of reading that lie in the bytes, "1 (bytes), 2, 1 (code points)", and then those of
-- scoring, "1, 4, 5, 7, 6", of the text that the bytes are. There is no lent output that could be too short (3), and 1 of scoring is
-- the same test as 1 (code points), which comes before it. The place of 6 is an index in code points. The laws stand in proofs/Laws/ScoreUtf8.
-- Assumes nothing.
use Rattle.std.specs.Prelude.{ℕ, List, ◌∷◌, Float, Result, Some, ⊤}
use Rattle.base.specs.declared.Refusal.{Refusal}
use Rattle.base.specs.Causes.{first_of}
use Rattle.utf8_meaning.specs.Text.{text_of}
use Rattle.utf8_meaning.specs.Answer.{many_bytes, ill_formed, many_points}
use Rattle.md_meaning.specs.MessRatio.{DEFAULT_THRESHOLD, of_scoring, of_scoring_default}
use Rattle.md_meaning.specs.Scan.{accepted_score, unless}
use Rattle.md_meaning.specs.declared.Score.{Score}

unfoldable pub causes_utf8 : List ℕ → Float → List ℕ → List ℕ → Result ⊤ Refusal
causes_utf8 bytes threshold classes pairs =
    first_of (many_bytes bytes ∷ ill_formed bytes ∷ many_points bytes ∷ of_scoring (text_of bytes) threshold classes pairs)

-- the same without a threshold, and so without 4
unfoldable pub causes_utf8_default : List ℕ → List ℕ → List ℕ → Result ⊤ Refusal
causes_utf8_default bytes classes pairs =
    first_of (many_bytes bytes ∷ ill_formed bytes ∷ many_points bytes ∷ of_scoring_default (text_of bytes) classes pairs)

unfoldable pub mess_ratio_utf8 : List ℕ → Float → List ℕ → List ℕ → Result Score Refusal
mess_ratio_utf8 bytes threshold classes pairs =
    unless (causes_utf8 bytes threshold classes pairs) (accepted_score classes pairs (text_of bytes) (Some threshold))

unfoldable pub mess_ratio_utf8_default : List ℕ → List ℕ → List ℕ → Result Score Refusal
mess_ratio_utf8_default bytes classes pairs =
    unless (causes_utf8_default bytes classes pairs) (accepted_score classes pairs (text_of bytes) (Some DEFAULT_THRESHOLD))
