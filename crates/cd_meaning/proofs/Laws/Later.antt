-- "The third such match, counted over all layers, ends its layer; each later layer ends after its first kept match" (01), at the level of the call: a
-- layer of the text that is read once three sufficient matches were kept adds at most one to the kept matches (`later_layer`), and so all that
-- are read after that add at most one each (`later_most`).
-- Assumes nothing.
use Prim.Native.Nat.{ℕ, ◌+◌, ◌≤◌}
use mathlib.Core.Path.{◌≡◌, refl, sym, ap, ◌∙◌}
use mathlib.Core.Bool.{cond}
use mathlib.Core.List.{List, [], ◌∷◌, ◌++◌, append-nil}
use native.Mathlib.Omega.{arith}
use lib.Dec.{leb}
use lib.Ieee.{Float}
use lib.ListN.{length, length-append}
use Rattle.base.proofs.Laws.Tests.{by_bool, cond_both}
use Rattle.cd_layers.specs.Layers.{Layer, alpha_unicode_split}
use Rattle.cd_letters.specs.Letters.{ranking}
use Rattle.cd_taken_meaning.specs.Taken.{taken_chars}
use Rattle.cd_matches.specs.Matches.{scores_of}
use Rattle.cd_best.specs.Kept.{ENOUGH, Hit, sufficient_in, kept_in}
use Rattle.cd_best.proofs.Laws.Kept.{kept_later}
use Rattle.cd_meaning.specs.KeptMatches.{records_of, order_kept, layer_kept, layers_kept, kept_of}

module _ (threshold : Float) (small : ℕ) (classes t included : List ℕ) where
  -- what a layer with these letters adds to the kept matches
  abbrev added : List Hit → List ℕ → List Hit
  added hits letters =
      cond (leb (length letters) small) []
      (kept_in threshold (sufficient_in hits) (records_of threshold small classes t included (ranking letters))
      (scores_of t (ranking letters) (records_of threshold small classes t included (ranking letters))))

  layer_adds : (hits : List Hit) (letters : List ℕ) → layer_kept threshold small classes t included hits letters ≡ hits ++ added hits letters
  unfolding layer_kept order_kept
  layer_adds hits letters = by_bool (leb (length letters) small) (λ e. rw e (sym (append-nil hits))) (λ e. rw e)

  added_later : (hits : List Hit) → ENOUGH ≤ sufficient_in hits → (letters : List ℕ) → length (added hits letters) ≤ 1
  added_later hits h letters =
      cond_both (λ (l : List Hit). length l ≤ 1) (leb (length letters) small) [] _ (omega arith) (kept_later threshold (sufficient_in hits) h _ _)

  layers_split : (hits : List Hit) (ys zs : List Layer)
      → layers_kept threshold small classes t included hits (ys ++ zs)
      ≡ layers_kept threshold small classes t included (layers_kept threshold small classes t included hits ys) zs
  unfolding layers_kept
  layers_split hits [] zs = refl
  layers_split hits (y ∷ ys) zs = layers_split (layer_kept threshold small classes t included hits y.letters) ys zs

-- what was sufficient stays so
sufficient_more : (hits more : List Hit) → sufficient_in hits ≤ sufficient_in (hits ++ more)
unfolding sufficient_in
sufficient_more [] more = omega arith
sufficient_more (h ∷ hits) more = omega (arith, sufficient_more hits more)

module _ (threshold : Float) (small : ℕ) (classes t included : List ℕ) where
  layers_most : (hits : List Hit) → ENOUGH ≤ sufficient_in hits → (zs : List Layer)
      → length (layers_kept threshold small classes t included hits zs) ≤ length hits + length zs
  unfolding layers_kept
  layers_most hits h [] = omega arith
  layers_most hits h (z ∷ zs) =
      let more : List Hit = added threshold small classes t included hits z.letters in
      rw (layer_adds threshold small classes t included hits z.letters)
      (omega (
        arith,
        layers_most (hits ++ more) (omega (arith, sufficient_more hits more)) zs,
        length-append hits more,
        added_later threshold small classes t included hits h z.letters,
      ))

-- the kept matches of a call are those of its layers ys, what y adds, and what comes after
pub record LaterLayer (text : List ℕ) (threshold : Float) (small : ℕ) (classes pairs t included : List ℕ) (ys zs : List Layer) : Type 0 where
  pub adds : List Hit
  pub one : length adds ≤ 1
  pub rest : kept_of text threshold small classes pairs t included
      ≡ layers_kept threshold small classes t included (layers_kept threshold small classes t included [] ys ++ adds) zs

module _ (text : List ℕ) (threshold : Float) (small : ℕ) (classes pairs t included : List ℕ) (ys zs : List Layer) (y : Layer)
    (layers : alpha_unicode_split pairs (taken_chars classes text) ≡ ys ++ (y ∷ zs))
    (enough : ENOUGH ≤ sufficient_in (layers_kept threshold small classes t included [] ys)) where
  pub later_layer : LaterLayer text threshold small classes pairs t included ys zs
  unfolding layers_kept
  later_layer =
      let before : List Hit = layers_kept threshold small classes t included [] ys in
      record {
        adds = added threshold small classes t included before y.letters;
        one = added_later threshold small classes t included before enough y.letters;
        rest =
            ap (λ (l : List Layer). layers_kept threshold small classes t included [] l) layers
            ∙ layers_split threshold small classes t included [] ys (y ∷ zs)
            ∙ ap (λ (l : List Hit). layers_kept threshold small classes t included l zs) (layer_adds threshold small classes t included before y.letters);
      }

-- of the layers zs that are read once three sufficient matches were kept, each adds one at most
pub later_most : (text : List ℕ) (threshold : Float) (small : ℕ) (classes pairs t included : List ℕ) (ys zs : List Layer)
    → alpha_unicode_split pairs (taken_chars classes text) ≡ ys ++ zs
    → ENOUGH ≤ sufficient_in (layers_kept threshold small classes t included [] ys)
    → length (kept_of text threshold small classes pairs t included) ≤ length (layers_kept threshold small classes t included [] ys) + length zs
later_most text threshold small classes pairs t included ys zs layers enough =
    rw (layers, layers_split threshold small classes t included [] ys zs) (layers_most threshold small classes t included _ enough zs)
