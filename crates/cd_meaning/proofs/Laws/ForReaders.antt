-- For readers, of the matches of a call that is not refused, whatever its threshold (01, "Layers and rankings"): "The best score per language number
-- stays" (`matches_best`, `matches_all`), none below the threshold (`matches_above`), "falling" (`matches_fall`), "ties in the table order of first
-- records" (`matches_tie`). No number stands twice (`matches_once`), each is in the table (`matches_known`), and there are at most as many as language
-- records (`matches_few`). "Each later layer ends after its first kept match" (`later_layers`).
-- Assumes nothing.
use Prim.Native.Nat.{ℕ, ◌+◌, ◌≤◌, ◌<◌}
use mathlib.Core.Path.{◌≡◌, refl, sym, ap, ◌∙◌}
use mathlib.Core.Bool.{true, false}
use mathlib.Core.List.{List, [], ◌∷◌, ◌++◌}
use lib.Ieee.{Float, le, lt}
use lib.ListN.{length}
use Rattle.base.specs.Limits.{MOST_LANGUAGES}
use Rattle.base.proofs.Laws.In.{In}
use Rattle.cd_languages.specs.Languages.{languages, number_of, first_record}
use Rattle.cd_languages.proofs.Laws.Languages.{good_most}
use Rattle.cd_layers.specs.Layers.{Layer}
use Rattle.cd_best.specs.Kept.{ENOUGH, Hit, sufficient_in}
use Rattle.cd_best.specs.Best.{best_score}
use Rattle.cd_best.specs.Inner.Known.{Known}
use Rattle.cd_best.proofs.Laws.Best.{best_upper}
use Rattle.cd_ranking.specs.declared.CoherenceMatch.{CoherenceMatch}
use Rattle.cd_ranking.specs.Ranking.{matched, match_at, ranking_of}
use Rattle.cd_ranking.proofs.Laws.Keys.{Rankable}
use Rattle.base.specs.Inner.All.{All}
use Rattle.base.proofs.Laws.All.{all_so}
use Rattle.cd_ranking.proofs.Laws.Ranking.{Pairs, Told, ranking_falls, ranking_ties, ranking_once, ranking_told, ranking_all, ranking_few, matched_all, matched_best, hits_rankable}
use Rattle.cd_meaning.specs.Inner.Causes.{Free}
use Rattle.cd_meaning.specs.Coherence.{matches_of}
use Rattle.cd_meaning.specs.KeptMatches.{layer_kept, layers_kept, kept_of}
use Rattle.cd_meaning.proofs.Laws.Kept.{kept_threshold, kept_layer}
use Rattle.cd_meaning.proofs.Laws.Fits.{kept_known}

-- the score of m is that of a kept match of its language, and no kept match of its number has a higher one
abbrev pub IsBest : List ℕ → List Hit → CoherenceMatch → Type 0
IsBest t hits m =
    In (record { at = first_record t m.language; score = m.score }) hits
    × ((h : Hit) → In h hits → number_of t h.at ≡ m.language → le h.score m.score ≡ true)

module _ (threshold : Float) (small : ℕ) (classes t included : List ℕ) where
  layers_more : (hits : List Hit) (ys : List Layer) (y : Layer)
      → layers_kept threshold small classes t included hits (ys ++ (y ∷ []))
      ≡ layers_kept threshold small classes t included (layers_kept threshold small classes t included hits ys) (y ∷ [])
  unfolding layers_kept
  layers_more hits [] y = refl
  layers_more hits (x ∷ ys) y = layers_more (layer_kept threshold small classes t included hits x.letters) ys y

  abbrev pub kept_after : List Layer → List Hit
  kept_after ys = layers_kept threshold small classes t included [] ys

  pub later_layers : (ys : List Layer) (y : Layer) → ENOUGH ≤ sufficient_in (kept_after ys) → length (kept_after (ys ++ (y ∷ []))) ≤ length (kept_after ys) + 1
  unfolding layers_kept
  later_layers ys y h = rw (layers_more [] ys y) (kept_layer threshold small classes t included (kept_after ys) h y.letters)

module _ (text : List ℕ) (threshold : Float) (small : ℕ) (classes pairs t included : List ℕ) (work : ℕ) (free : Free text classes pairs t included work) where
  abbrev found : List CoherenceMatch
  found = matches_of text threshold small classes pairs t included

  abbrev hits : List Hit
  hits = kept_of text threshold small classes pairs t included

  knows : (h : Hit) → In h hits → Known t h.at h.score
  knows = kept_known text classes pairs t included work free threshold small

  most : languages t ≤ MOST_LANGUAGES
  most = good_most t free.comparable.languages

  rankable : Rankable t (best_score hits) (matched t hits)
  rankable = hits_rankable t hits most knows

  told_best : (m : CoherenceMatch) → Told t (best_score hits) (matched t hits) m → IsBest t hits m
  told_best m e = (
    rw e.2 (matched_best t hits most knows (first_record t m.language) e.1),
    λ h i n. let q : h.at ≡ first_record t m.language = sym (knows h i).2 ∙ ap (first_record t) n in
        rw e.2 (rw q at (best_upper hits (λ g j. (knows g j).1.plain) h i)),
  )

  pub matches_best : All (IsBest t hits) found
  unfolding matches_of
  matches_best = all_so (ranking_of t hits) told_best (ranking_told rankable)

  -- "Below the threshold .. a match is skipped"
  pub matches_above : All (λ m. lt m.score threshold ≡ false) found
  matches_above = all_so found (λ m b. kept_threshold text threshold small classes pairs t included _ b.0) matches_best

  -- each kept match's language has a match
  pub matches_all : (h : Hit) → In h hits → (m : CoherenceMatch) × In m found × (m.language ≡ number_of t h.at)
  unfolding matches_of
  matches_all h i = (match_at t (best_score hits) h.at, ranking_all rankable h.at (matched_all t hits most knows h i), refl)

  pub matches_fall : Pairs (λ a b. lt a.score b.score ≡ false) found
  unfolding matches_of
  matches_fall = ranking_falls rankable

  pub matches_tie : Pairs (λ a b. lt b.score a.score ≡ false → first_record t a.language < first_record t b.language) found
  unfolding matches_of
  matches_tie = ranking_ties rankable

  pub matches_once : Pairs (λ a b. a.language ≡ b.language → ⊥) found
  unfolding matches_of
  matches_once = ranking_once rankable

  pub matches_known : All (λ m. first_record t m.language < languages t) found
  unfolding matches_of
  matches_known = all_so (ranking_of t hits) (λ m e. e.0) (ranking_told rankable)

  pub matches_few : length found ≤ languages t
  unfolding matches_of
  matches_few = ranking_few rankable
