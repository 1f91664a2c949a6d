-- Of the kept matches of a text: none is below the threshold (`kept_threshold`); "each later layer ends after its first kept match" (`kept_layer`); and
-- what the code holds after all layers tallies with them (`layers_tallies`), layer after layer.
-- Assumes nothing.
use Prim.Native.Nat.{ℕ, suc, ◌+◌, ◌≤◌}
use mathlib.Core.Path.{◌≡◌}
use mathlib.Core.Logic.{inl, inr}
use mathlib.Core.Bool.{false}
use mathlib.Core.List.{List, [], ◌∷◌, ◌++◌}
use native.Mathlib.Omega.{arith}
use lib.Dec.{leb}
use lib.Ieee.{Float, lt}
use lib.ListN.{length, length-append}
use Rattle.base.specs.Inner.Limits.{MOST_LETTERS}
use Rattle.base.proofs.Laws.Tests.{cond_both}
use Rattle.base.proofs.Laws.In.{In, in_either}
use Rattle.ratio.specs.Inner.Finite.{Plain}
use Rattle.cd_layers.specs.Layers.{Layer, alpha_unicode_split}
use Rattle.cd_layers.proofs.Laws.Joining.{letters_at_lem}
use Rattle.cd_letters.specs.Letters.{ranking}
use Rattle.cd_taken_meaning.specs.Taken.{taken_chars}
use Rattle.cd_taken_meaning.specs.Accents.{some_accented}
use Rattle.cd_matches.specs.Matches.{scores_of}
use Rattle.cd_matches.specs.Inner.LayerRead.{layer_read}
use Rattle.cd_matches.proofs.Laws.Matches.{match_known}
use Rattle.cd_best.specs.declared.Standing.{Standing}
use Rattle.cd_best.specs.Kept.{ENOUGH, Hit, sufficient_in, kept_in}
use Rattle.cd_best.specs.Inner.Known.{Known}
use Rattle.cd_best.proofs.Laws.Kept.{kept_above, kept_later}
use Rattle.cd_best.proofs.Laws.Tallies.{Tallies, cond_two, walk_tallies}
use Rattle.cd_meaning.specs.Inner.Comparable.{Comparable}
use Rattle.cd_meaning.specs.KeptMatches.{records_of, order_kept, layer_kept, layers_kept, kept_of}
use Rattle.cd_meaning.specs.Inner.After.{order_after, layer_after, layers_after}

module _ (threshold : Float) (small : ℕ) (classes t included : List ℕ) where
  abbrev Above : List Hit → Type 0
  Above hits = (h : Hit) → In h hits → lt h.score threshold ≡ false

  order_above : (hits : List Hit) → Above hits → (order : List ℕ) → Above (order_kept threshold small classes t included hits order)
  unfolding order_kept
  order_above hits a order h i =
      let records : List ℕ = records_of threshold small classes t included order in
      elim (in_either h hits (kept_in threshold (sufficient_in hits) records (scores_of t order records)) i) [
        | inl j ↦ a h j
        | inr j ↦ kept_above threshold (sufficient_in hits) records (scores_of t order records) h j
      ]

  layers_above : (hits : List Hit) → Above hits → (ys : List Layer) → Above (layers_kept threshold small classes t included hits ys)
  unfolding layers_kept layer_kept
  layers_above hits a [] = a
  layers_above hits a (y ∷ ys) =
      layers_above (layer_kept threshold small classes t included hits y.letters)
      (cond_both Above (leb (length y.letters) small) hits (order_kept threshold small classes t included hits (ranking y.letters))
      a (order_above hits a (ranking y.letters)))
      ys

pub kept_threshold : (text : List ℕ) (threshold : Float) (small : ℕ) (classes pairs t included : List ℕ) (h : Hit)
    → In h (kept_of text threshold small classes pairs t included) → lt h.score threshold ≡ false
kept_threshold text threshold small classes pairs t included =
    layers_above threshold small classes t included [] (λ h i. absurd i) (alpha_unicode_split pairs (taken_chars classes text))

module _ (threshold : Float) (small : ℕ) (classes t included : List ℕ) where
  pub kept_layer : (hits : List Hit) → ENOUGH ≤ sufficient_in hits → (letters : List ℕ)
      → length (layer_kept threshold small classes t included hits letters) ≤ length hits + 1
  unfolding layer_kept order_kept
  kept_layer hits h letters =
      let order : List ℕ = ranking letters in
      let records : List ℕ = records_of threshold small classes t included order in
      let more : List Hit = kept_in threshold (sufficient_in hits) records (scores_of t order records) in
      cond_both (λ (l : List Hit). length l ≤ length hits + 1) (leb (length letters) small) hits (hits ++ more)
      (omega arith)
      (omega (arith, length-append hits more, kept_later threshold (sufficient_in hits) h records (scores_of t order records)))

module _ (threshold : Float) (small : ℕ) (classes t included : List ℕ) (good : Comparable classes t included) where
  plain : (r : ℕ) (x : Float) → Known t r x → Plain x
  plain r x k = k.1.plain

  order_tallies : (s : Standing) (hits : List Hit) → Tallies (Known t) hits s → (order : List ℕ) → length order ≤ MOST_LETTERS
      → Tallies (Known t) (order_kept threshold small classes t included hits order) (order_after threshold classes t included s order)
  unfolding order_kept order_after layer_read
  order_tallies s hits b order h =
      let records : List ℕ = records_of threshold small classes t included order in
      rw (← b.count)
      (walk_tallies (Known t) plain threshold s hits b records (scores_of t order records)
      (match_known t included (some_accented classes order) order good.languages good.included h))

  layer_tallies : (s : Standing) (hits : List Hit) → Tallies (Known t) hits s → (letters : List ℕ) → length (ranking letters) ≤ MOST_LETTERS
      → Tallies (Known t) (layer_kept threshold small classes t included hits letters) (layer_after threshold small classes t included s letters)
  unfolding layer_kept layer_after
  layer_tallies s hits b letters h =
      cond_two (Tallies (Known t)) (leb (length letters) small)
      hits (order_kept threshold small classes t included hits (ranking letters))
      s (order_after threshold classes t included s (ranking letters))
      b
      (order_tallies s hits b (ranking letters) h)

  pub layers_tallies : (s : Standing) (hits : List Hit) → Tallies (Known t) hits s → (ys : List Layer) → ((k : ℕ) → length (ranking (letters_at_lem k ys)) ≤ MOST_LETTERS)
      → Tallies (Known t) (layers_kept threshold small classes t included hits ys) (layers_after threshold small classes t included s ys)
  unfolding layers_kept layers_after
  layers_tallies s hits b [] h = b
  layers_tallies s hits b (y ∷ ys) h =
      layers_tallies (layer_after threshold small classes t included s y.letters) (layer_kept threshold small classes t included hits y.letters)
      (layer_tallies s hits b y.letters (h 0)) ys (λ k. h (suc k))
