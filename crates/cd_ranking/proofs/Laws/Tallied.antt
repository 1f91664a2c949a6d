-- The ranking of what the code holds is that of the kept matches (`tallied_ranking`).
-- Assumes nothing.
use Prim.Native.Nat.{ℕ, ◌+◌, ◌-◌, ◌≤◌, ◌<◌}
use mathlib.Core.Path.{◌≡◌, sym, ap, ◌∙◌}
use mathlib.Core.Bool.{true}
use mathlib.Core.List.{List, map}
use native.Mathlib.Omega.{arith}
use lib.Ieee.{Float}
use Rattle.base.specs.Limits.{MOST_LANGUAGES}
use Rattle.base.proofs.Laws.In.{In}
use Rattle.cd_jaro_meaning.specs.Inner.Similarity.{Good}
use Rattle.cd_languages.specs.Languages.{languages}
use Rattle.cd_order.specs.Sorting.{in_order}
use Rattle.cd_order.specs.Chosen.{passing}
use Rattle.cd_order.proofs.Laws.Chosen.{chosen_in}
use Rattle.cd_order.proofs.Laws.Sorting.{order_in_lem}
use Rattle.cd_best.specs.declared.Standing.{Standing}
use Rattle.cd_best.specs.Kept.{Hit}
use Rattle.cd_best.specs.Best.{has_match, best_score}
use Rattle.cd_best.specs.Inner.Standing.{kept_at, best_at}
use Rattle.cd_best.specs.Inner.Known.{Known}
use Rattle.cd_best.proofs.Laws.Tallies.{Tallies, tallies_kept, tallies_best}
use Rattle.cd_ranking.specs.Ranking.{matched, stands_before, match_at, in_rank, ranking_of}
use Rattle.cd_ranking.specs.Inner.Listed.{kept_records}
use Rattle.cd_ranking.proofs.Laws.Same.{chosen_same, chosen_fewer, order_same, map_same}

module _ (t : List ℕ) (most : languages t ≤ MOST_LANGUAGES) {hits : List Hit} {s : Standing} (b : Tallies (Known t) hits s) where
  good : (r : ℕ) (x : Float) → Known t r x → Good x
  good r x k = k.1

  -- no record past the table has a match
  below : (r : ℕ) → has_match hits r ≡ true → r < languages t
  below r e = (b.holds.each r (tallies_kept b good r ∙ e)).0

  kept_matched : kept_records s ≡ matched t hits
  unfolding matched
  kept_matched =
      let e : languages t + (MOST_LANGUAGES - languages t) ≡ MOST_LANGUAGES = omega arith in
      chosen_same (kept_at s) (has_match hits) (tallies_kept b good) MOST_LANGUAGES
      ∙ ap (passing (has_match hits)) (sym e)
      ∙ chosen_fewer (has_match hits) (languages t) below (MOST_LANGUAGES - languages t)

  best_same : (r : ℕ) → In r (kept_records s) → best_at s r ≡ best_score hits r
  best_same r i = tallies_best b good r (chosen_in (kept_at s) MOST_LANGUAGES r i).1

  pub tallied_ranking : in_rank t (best_at s) (kept_records s) ≡ ranking_of t hits
  unfolding in_rank stands_before
  tallied_ranking =
      map_same (match_at t (best_at s)) (match_at t (best_score hits)) (in_order (stands_before (best_at s)) (kept_records s))
      (λ r i. rw (best_same r (order_in_lem (stands_before (best_at s)) (kept_records s) r i)))
      ∙ ap (λ (l : List ℕ). map (match_at t (best_score hits)) l)
      (order_same (stands_before (best_at s)) (stands_before (best_score hits)) (kept_records s) (λ r q i j. rw (best_same r i, best_same q j)))
      ∙ ap (in_rank t (best_score hits)) kept_matched
