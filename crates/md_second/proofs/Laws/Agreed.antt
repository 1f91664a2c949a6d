-- 02 [10]: "On every text of at most 4,096 code points its answers, refusals and stop equal the main engine's" (`second_agrees`), and above it is refused as too
-- long (`second_refuses`). And one law for each way in which `second_score` returns (`agreed-..`).
-- Assumes nothing.
use Rattle.std.specs.Prelude.{Ok, Err, Some}
use Prim.Native.Nat.{ℕ, ◌≤◌, ◌<◌}
use mathlib.Core.Path.{◌≡◌, sym, ◌∙◌}
use mathlib.Core.Bool.{true, false}
use mathlib.Core.List.{List}
use native.Mathlib.Omega.{arith}
use lib.Ieee.{Float}
use lib.ListN.{length}
use borrow.Author.Tests.{lt-ltb, le-ltb}
use Rattle.base.specs.declared.Refusal.{Refusal}
use Rattle.base.specs.Causes.{refused_at}
use Rattle.base.specs.declared.refusals.Cause.TheVariants.{TooLong, NotFinite}
use Rattle.base.proofs.Laws.Causes.{given_yes, free_given}
use Rattle.classes.specs.Check.{bad_classes}
use Rattle.classes.specs.Pairs.{bad_pairs}
use Rattle.ratio.specs.Finite.{is_finite}
use Rattle.md_meaning.specs.MessRatio.{mess_ratio}
use Rattle.md_meaning.specs.Inner.Lent.{bad_lent}
use Rattle.md_meaning.specs.Inner.Scan.{scan}
use Rattle.md_meaning.proofs.Laws.Lent.{lent_unbounded, lent_on, tables_bad, tables_on}
use Rattle.md_meaning.proofs.Laws.MessRatio.{ratio_lent, ratio_scan}
use Rattle.md_meaning.proofs.Laws.Scan.{unless_allowed, unless_at}
use Rattle.md_second.specs.Second.{SECOND_LONGEST, too_long, second_score}

module _ (text : List ℕ) (threshold : Float) (classes pairs : List ℕ) where
  pub second_refuses : SECOND_LONGEST < length text → second_score text threshold classes pairs ≡ refused_at TooLong 0
  unfolding second_score too_long
  second_refuses h = unless_at _ _ TooLong 0 (given_yes _ TooLong 0 (lt-ltb SECOND_LONGEST (length text) h))

  module _ (h : length text ≤ SECOND_LONGEST) where
    pub second_agrees : second_score text threshold classes pairs ≡ mess_ratio text threshold classes pairs
    unfolding second_score too_long
    second_agrees = unless_allowed _ _ (free_given _ TooLong 0 (le-ltb SECOND_LONGEST (length text) h))

    agreed_lent : (r : Refusal) → bad_lent threshold classes pairs ≡ Err r → Err r ≡ second_score text threshold classes pairs
    agreed_lent r e = ratio_lent text threshold classes pairs (omega arith) r e ∙ sym second_agrees

    pub agreed_unbounded : is_finite threshold ≡ false → refused_at NotFinite 0 ≡ second_score text threshold classes pairs
    unfolding refused_at
    agreed_unbounded e = agreed_lent _ (lent_unbounded classes pairs threshold e)

    module _ (e : is_finite threshold ≡ true) where
      pub agreed_classes : (r : Refusal) → bad_classes classes ≡ Err r → Err r ≡ second_score text threshold classes pairs
      agreed_classes r c = agreed_lent r (lent_on classes pairs threshold e ∙ tables_bad classes pairs r c)

      module _ (c : bad_classes classes ≡ Ok tt) where
        pub agreed_pairs : (r : Refusal) → bad_pairs pairs ≡ Err r → Err r ≡ second_score text threshold classes pairs
        agreed_pairs r p = agreed_lent r (lent_on classes pairs threshold e ∙ tables_on classes pairs c ∙ p)

        pub agreed_scan : bad_pairs pairs ≡ Ok tt → scan classes pairs text (Some threshold) ≡ second_score text threshold classes pairs
        agreed_scan p =
            ratio_scan text threshold classes pairs (omega arith) (lent_on classes pairs threshold e ∙ tables_on classes pairs c ∙ p) ∙ sym second_agrees
