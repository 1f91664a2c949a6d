-- UTF-8 read and scored in one call refuses exactly for the causes of reading that lie in the bytes and for those of scoring: `faultless_utf8` and
-- `utf8_faultless`, and without a threshold `faultless_utf8_default` and `utf8_default_faultless`. What is scored is the text that the bytes
-- are (`utf8_scored`), so that what holds of mess_ratio's answers holds of these: demand 3, whole (`demand_three_utf8`,
-- `demand_three_utf8_default`), and 01's bounds of the ratios (`utf8_at_most`, `utf8_default_at_most`).
-- Assumes nothing.
use Rattle.std.specs.Prelude.{Ok, Some}
use Prim.Native.Nat.{ℕ}
use mathlib.Core.Path.{◌≡◌, sym, ◌∙◌}
use mathlib.Core.List.{List}
use lib.Ieee.{Float}
use lib.ListN.{length}
use Rattle.base.proofs.Laws.Causes.{first_past, first_free}
use Rattle.ratio.specs.Finite.{Finite}
use Rattle.utf8_meaning.specs.Text.{text_of}
use Rattle.utf8_meaning.specs.Answer.{many_bytes, ill_formed, many_points}
use Rattle.utf8_meaning.specs.Inner.Answer.{in_bytes, unreadable}
use Rattle.utf8_meaning.specs.Inner.Readable.{Readable}
use Rattle.utf8_meaning.proofs.Laws.Answer.{free_readable, readable_free}
use Rattle.md_meaning.specs.declared.Score.{Score}
use Rattle.md_meaning.specs.MessRatio.{DEFAULT_THRESHOLD, of_scoring, causes, mess_ratio}
use Rattle.md_meaning.specs.Scan.{accepted_score}
use Rattle.md_meaning.specs.DemandThree.{Certain}
use Rattle.md_meaning.proofs.Laws.Scan.{unless_allowed, unless_score}
use Rattle.md_meaning.proofs.Laws.Accepted.{Faultless, faultless_free, free_faultless}
use Rattle.md_meaning.proofs.Laws.Default.{default_threshold}
use Rattle.md_meaning.proofs.Laws.DemandThree.{demand_three}
use Rattle.md_meaning.proofs.Laws.Plain.{Bounded, ratio_at_most}
use Rattle.md_utf8_meaning.specs.ScoreUtf8.{causes_utf8, mess_ratio_utf8, mess_ratio_utf8_default}
use Rattle.md_utf8_meaning.proofs.Laws.ScoreUtf8.{default_same_utf8}

-- none of the causes that lie in the bytes, 1 (bytes), 2, 1 (code points), and none of scoring's of the text that they are
pub record FaultlessUtf8 (bytes : List ℕ) (threshold : Float) (classes pairs : List ℕ) : Type 0 where
  pub readable : Readable bytes (length (text_of bytes))
  pub text : Faultless (text_of bytes) threshold classes pairs

module _ (bytes : List ℕ) (threshold : Float) (classes pairs : List ℕ) where
  -- no cause, no refusal
  pub faultless_utf8 : FaultlessUtf8 bytes threshold classes pairs
      → mess_ratio_utf8 bytes threshold classes pairs ≡ accepted_score classes pairs (text_of bytes) (Some threshold)
  unfolding mess_ratio_utf8 causes_utf8 causes unreadable
  faultless_utf8 f =
      unless_allowed _ _
      (first_past (in_bytes bytes) (of_scoring (text_of bytes) threshold classes pairs) (readable_free bytes _ f.readable)
      ∙ faultless_free (text_of bytes) threshold classes pairs f.text)

  module _ (s : Score) (e : mess_ratio_utf8 bytes threshold classes pairs ≡ Ok s) where
    both : Readable bytes (length (text_of bytes)) × (causes (text_of bytes) threshold classes pairs ≡ Ok tt)
    unfolding mess_ratio_utf8 causes_utf8 causes
    both =
        let u = unless_score (causes_utf8 bytes threshold classes pairs) _ s e in
        let a = first_free (many_bytes bytes) _ u.0 in
        let b = first_free (ill_formed bytes) _ a.1 in
        let c = first_free (many_points bytes) _ b.1 in
        (free_readable bytes a.0 b.0 c.0, c.1)

    -- no refusal, no cause
    pub utf8_faultless : FaultlessUtf8 bytes threshold classes pairs
    utf8_faultless = record { readable = both.0; text = free_faultless (text_of bytes) threshold classes pairs both.1 }

    -- it is mess_ratio's score of the text
    pub utf8_scored : mess_ratio (text_of bytes) threshold classes pairs ≡ Ok s
    unfolding mess_ratio_utf8 mess_ratio
    utf8_scored = unless_allowed _ _ both.1 ∙ (unless_score (causes_utf8 bytes threshold classes pairs) _ s e).1

    pub demand_three_utf8 : Finite threshold → Certain (text_of bytes) threshold classes pairs s
    demand_three_utf8 F = demand_three (text_of bytes) threshold classes pairs s F utf8_scored

    pub utf8_at_most : Bounded s
    utf8_at_most = ratio_at_most (text_of bytes) threshold classes pairs s utf8_scored

-- without a threshold: 0.2 is a finite f32
module _ (bytes classes pairs : List ℕ) where
  pub faultless_utf8_default : FaultlessUtf8 bytes DEFAULT_THRESHOLD classes pairs
      → mess_ratio_utf8_default bytes classes pairs ≡ accepted_score classes pairs (text_of bytes) (Some DEFAULT_THRESHOLD)
  faultless_utf8_default f = sym (default_same_utf8 bytes classes pairs) ∙ faultless_utf8 bytes DEFAULT_THRESHOLD classes pairs f

  module _ (s : Score) (e : mess_ratio_utf8_default bytes classes pairs ≡ Ok s) where
    pub utf8_default_faultless : FaultlessUtf8 bytes DEFAULT_THRESHOLD classes pairs
    utf8_default_faultless = utf8_faultless bytes DEFAULT_THRESHOLD classes pairs s (default_same_utf8 bytes classes pairs ∙ e)

    pub demand_three_utf8_default : Certain (text_of bytes) DEFAULT_THRESHOLD classes pairs s
    demand_three_utf8_default =
        demand_three_utf8 bytes DEFAULT_THRESHOLD classes pairs s (default_same_utf8 bytes classes pairs ∙ e) default_threshold

    pub utf8_default_at_most : Bounded s
    utf8_default_at_most = utf8_at_most bytes DEFAULT_THRESHOLD classes pairs s (default_same_utf8 bytes classes pairs ∙ e)
