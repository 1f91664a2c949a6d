-- The calls without a threshold: mess_ratio_default, and whole_score, behind the chooser. Each refuses exactly for the causes of scoring but 4:
-- `faultless_default` and `default_faultless`, `faultless_whole` and `whole_faultless`. Demand 3 of mess_ratio_default, whole:
-- `demand_three_default`. What a score of either has: `default_plain` and `whole_plain` (finite, no NaN, not below +0.0), `default_at_most` and
-- `whole_at_most` (01's bounds of the ratios). That 0.2 is finite is proved here, so that nothing is left to show of a threshold.
-- Assumes nothing.
use Rattle.std.specs.Prelude.{Ok, Some, None}
use Prim.Native.Nat.{ℕ}
use mathlib.Core.Path.{◌≡◌, refl, sym, ◌∙◌}
use mathlib.Core.List.{List}
use lib.Ieee.{of_bits, fits}
use Rattle.ratio.specs.Finite.{Finite}
use Rattle.md_meaning.specs.declared.Score.{Score}
use Rattle.md_meaning.specs.Scan.{accepted_score}
use Rattle.md_meaning.specs.MessRatio.{DEFAULT_THRESHOLD, causes_default, mess_ratio_default, whole_score}
use Rattle.md_meaning.specs.DemandThree.{Certain}
use Rattle.md_meaning.specs.Inner.Plain.{PlainScore, PlainAnswer}
use Rattle.md_meaning.proofs.Laws.Scan.{unless_allowed, unless_score}
use Rattle.md_meaning.proofs.Laws.MessRatio.{default_finite, default_causes, default_same}
use Rattle.md_meaning.proofs.Laws.Accepted.{Faultless, faultless_free, free_faultless, faultless_scored, Accepted, scored_faultless}
use Rattle.md_meaning.proofs.Laws.DemandThree.{demand_three}
use Rattle.md_meaning.proofs.Laws.Plain.{Bounded, always_plain, always_at_most, accepted_always, ratio_plain, ratio_at_most}

-- 0.2 is a finite f32
pub default_threshold : Finite DEFAULT_THRESHOLD
unfolding of_bits fits
default_threshold = record { is_finite_holds = refl; is_f32 = refl }

module _ (text classes pairs : List ℕ) where
  -- none of scoring's causes but 4, which 0.2 is not: 1, 5, 7, 6
  abbrev pub FaultlessDefault : Type 0
  FaultlessDefault = Faultless text DEFAULT_THRESHOLD classes pairs

  -- ---- the default call
  pub faultless_default : FaultlessDefault → mess_ratio_default text classes pairs ≡ accepted_score classes pairs text (Some DEFAULT_THRESHOLD)
  faultless_default f = sym (default_same text classes pairs) ∙ faultless_scored text DEFAULT_THRESHOLD classes pairs f

  module _ (s : Score) (e : mess_ratio_default text classes pairs ≡ Ok s) where
    pub default_faultless : Accepted text DEFAULT_THRESHOLD classes pairs s
    default_faultless = scored_faultless text DEFAULT_THRESHOLD classes pairs s (default_same text classes pairs ∙ e)

    pub demand_three_default : Certain text DEFAULT_THRESHOLD classes pairs s
    demand_three_default = demand_three text DEFAULT_THRESHOLD classes pairs s default_threshold (default_same text classes pairs ∙ e)

    pub default_plain : PlainScore s
    default_plain = ratio_plain text DEFAULT_THRESHOLD classes pairs s (default_same text classes pairs ∙ e)

    pub default_at_most : Bounded s
    default_at_most = ratio_at_most text DEFAULT_THRESHOLD classes pairs s (default_same text classes pairs ∙ e)

  -- ---- a text scored whole
  pub faultless_whole : FaultlessDefault → whole_score text classes pairs ≡ accepted_score classes pairs text None
  unfolding whole_score
  faultless_whole f = unless_allowed _ _ (sym (default_causes text classes pairs) ∙ faultless_free text DEFAULT_THRESHOLD classes pairs f)

  pub record AcceptedWhole (s : Score) : Type 0 where
    pub faultless : FaultlessDefault
    pub is : accepted_score classes pairs text None ≡ Ok s

  module _ (s : Score) (e : whole_score text classes pairs ≡ Ok s) where
    pub whole_faultless : AcceptedWhole s
    unfolding whole_score
    whole_faultless =
        let u = unless_score (causes_default text classes pairs) _ s e in
        record { faultless = free_faultless text DEFAULT_THRESHOLD classes pairs (default_causes text classes pairs ∙ u.0); is = u.1 }

    pub whole_plain : PlainScore s
    whole_plain = accepted_always text None classes pairs whole_faultless.faultless.short PlainScore always_plain s whole_faultless.is

    pub whole_at_most : Bounded s
    whole_at_most = accepted_always text None classes pairs whole_faultless.faultless.short Bounded always_at_most s whole_faultless.is
