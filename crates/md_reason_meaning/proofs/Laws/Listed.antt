-- What reason's list is, for readers: exactly the indexes below the number fed at which the numerator grows (`listed_in`, `listed_all`), rising, so that each stands there once (`listed_rises`);
-- its last index is the state's last growth (`last_listed`); and it is empty exactly where the greatest ratio is 0, that is where no detector is named (`none_listed`, `some_listed`).
-- Assumes nothing.
use Rattle.std.specs.Prelude.{Ok, Some}
use Prim.Native.Nat.{ℕ, zero, suc, ◌+◌, ◌<◌}
use mathlib.Core.Path.{◌≡◌, refl, sym, ap, subst, ◌∙◌}
use mathlib.Core.Bool.{Bool, true, false, true≢false}
use mathlib.Core.List.{List}
use native.Mathlib.Numerals.{add-one}
use native.Mathlib.Omega.{arith}
use lib.Dec.{ltb}
use lib.Ieee.{Float, le}
use lib.ListN.{length}
use Rattle.base.proofs.Laws.In.{In}
use Rattle.base.proofs.Laws.Tests.{by_bool}
use Rattle.cd_order.proofs.Laws.Chosen.{Rises, chosen_in, chosen_all, chosen_up}
use Rattle.ratio.specs.declared.Ratios.{Ratios}
use Rattle.ratio.specs.Rounded.{ZERO}
use Rattle.md_eight.specs.declared.Detectors.{Detectors}
use Rattle.md_eight.specs.Detectors.{counts, ratios}
use Rattle.md_eight.proofs.Loops.Detectors.{within_countable}
use Rattle.md_meaning.specs.declared.Score.{Score}
use Rattle.md_meaning.specs.Text.{total}
use Rattle.md_meaning.specs.Scan.{state_at, scored, stop_of, accepted_score}
use Rattle.md_meaning.specs.MessRatio.{mess_ratio}
use Rattle.md_meaning.proofs.Laws.Scan.{state_within}
use Rattle.md_meaning.proofs.Laws.Accepted.{scored_faultless}
use Rattle.md_meaning.proofs.Laws.Plain.{ratio_plain}
use Rattle.md_growth.specs.Text.{numerator_of, growth_of, grows, watched_at}
use Rattle.md_growth.proofs.Laws.Growth.{last_growth}
use Rattle.md_reason_meaning.specs.Greatest.{NO_DETECTOR, ratio_at, detector_of}
use Rattle.md_reason_meaning.specs.Reason.{fed_of, detector, indexes}
use Rattle.md_reason_meaning.specs.Inner.Reason.{listed}
use Rattle.md_reason_meaning.proofs.Laws.Greatest.{zero_plain, ratio_plain_at, all_below, detector_few, detector_some, detector_at_least}
use Rattle.md_reason_meaning.proofs.Laws.Growths.{still_zero, still_ratio}
use Rattle.md_reason_meaning.proofs.Laws.Indexes.{last_in, passing_none, none_passing, passing_last}
use Rattle.md_reason_meaning.proofs.Laws.Reason.{scored_indexes, scored_detector, scored_ripe}

-- by the cases of a number
by_number : {A : Type 0} (d : ℕ) → (d ≡ 0 → A) → ((k : ℕ) → d ≡ k + 1 → A) → A
by_number zero p q = p refl
by_number (suc k) p q = q k (sym (add-one k))

-- detector 0 never grows
still_none : (classes pairs text : List ℕ) (i : ℕ) → grows classes pairs text NO_DETECTOR i ≡ false
unfolding grows numerator_of
still_none classes pairs text i = refl

module _ (text : List ℕ) (threshold : Float) (classes pairs : List ℕ) where
  pub listed_in : (i : ℕ) → In i (indexes text threshold classes pairs)
      → (i < fed_of text threshold classes pairs) × (grows classes pairs text (detector text threshold classes pairs) i ≡ true)
  unfolding indexes
  listed_in i h = chosen_in (grows classes pairs text (detector text threshold classes pairs)) (fed_of text threshold classes pairs) i h

  pub listed_all : (i : ℕ) → i < fed_of text threshold classes pairs → grows classes pairs text (detector text threshold classes pairs) i ≡ true
      → In i (indexes text threshold classes pairs)
  unfolding indexes
  listed_all i h e = chosen_all (grows classes pairs text (detector text threshold classes pairs)) (fed_of text threshold classes pairs) i h e

  pub listed_rises : Rises (indexes text threshold classes pairs)
  unfolding indexes
  listed_rises = chosen_up (grows classes pairs text (detector text threshold classes pairs)) (fed_of text threshold classes pairs)

  -- the place that the state keeps is that of the last index, 0 where none is listed
  pub last_listed : last_in (indexes text threshold classes pairs)
      ≡ growth_of (detector text threshold classes pairs) (watched_at classes pairs text (fed_of text threshold classes pairs)).grown
  unfolding indexes
  last_listed =
      passing_last (grows classes pairs text (detector text threshold classes pairs)) (fed_of text threshold classes pairs)
      ∙ sym (last_growth classes pairs text (detector text threshold classes pairs) (fed_of text threshold classes pairs))

  -- where no detector is named nothing is listed
  pub none_listed : detector text threshold classes pairs ≡ NO_DETECTOR → length (indexes text threshold classes pairs) ≡ 0
  unfolding indexes
  none_listed e = passing_none (grows classes pairs text (detector text threshold classes pairs)) (fed_of text threshold classes pairs) (λ i h. rw e (still_none classes pairs text i))

told_ratios : (t : Detectors) (n : ℕ) (early : Bool) (s : Score) → scored t n early ≡ Ok s → (s.fed ≡ n) × (s.ratios ≡ ratios t)
unfolding scored
told_ratios t n early s e = (cc, cc)

module _ (text : List ℕ) (threshold : Float) (classes pairs : List ℕ) (s : Score) (e : mess_ratio text threshold classes pairs ≡ Ok s) where
  -- the ratios are those of the state after the characters fed
  fed_ratios : accepted_score classes pairs text (Some threshold) ≡ Ok s → s.ratios ≡ ratios (state_at classes pairs text s.fed)
  unfolding accepted_score
  fed_ratios a =
      let k = stop_of classes pairs text (Some threshold) in
      by_bool (ltb k (total text))
      (λ t. let r = told_ratios _ _ _ s (rw t at a) in rw r.0 r.1)
      (λ t. let r = told_ratios _ _ _ s (rw t at a) in rw r.0 r.1)

  -- a detector that is named has grown
  named : (k : ℕ) → detector_of s.ratios ≡ k + 1 → length (listed classes pairs text (k + 1) s.fed) ≡ 0 → ⊥
  named k d z =
      let plain = (ratio_plain text threshold classes pairs s e).ratios in
      let ripe = scored_ripe text threshold classes pairs s e in
      let few = detector_few s.ratios plain in
      let still = still_zero classes pairs text (k + 1) s.fed (none_passing (grows classes pairs text (k + 1)) s.fed z) in
      let small = within_countable s.fed (state_at classes pairs text s.fed) (state_within classes pairs text s.fed) (omega (arith, ripe.fed, ripe.short)) in
      let low : le (ratio_at s.ratios k) ZERO ≡ true = subst (λ (r : Ratios). le (ratio_at r k) ZERO ≡ true) (sym (fed_ratios (scored_faultless text threshold classes pairs s e).is))
      (still_ratio (counts (state_at classes pairs text s.fed)) small k (omega arith) still) in
      true≢false (sym (all_below s.ratios plain (ratio_at s.ratios k) ZERO (ratio_plain_at s.ratios plain k) zero_plain (detector_at_least s.ratios plain k d) low)
      ∙ detector_some s.ratios plain k d)

  -- and where one is, something is listed
  pub some_listed : length (indexes text threshold classes pairs) ≡ 0 → detector text threshold classes pairs ≡ NO_DETECTOR
  some_listed z =
      scored_detector text threshold classes pairs s e
      ∙ by_number (detector_of s.ratios)
      (λ d. d)
      (λ k d. absurd (named k d (rw d at (ap length (sym (scored_indexes text threshold classes pairs s e)) ∙ z))))
