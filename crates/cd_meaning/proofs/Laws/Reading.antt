-- The layers read off the work area w, which holds the layer numbers and lowered letters of n slots: `read_from`, that it is 01's reading of the
-- layers (`read_layers`), and how many sufficient matches it adds (`layer_after_few`).
-- Assumes nothing.
use Prim.Native.Nat.{ℕ, zero, suc, ◌+◌, ◌*◌, ◌-◌, ◌≤◌, ◌<◌}
use mathlib.Core.Path.{◌≡◌, refl, sym, ap, ◌∙◌}
use mathlib.Core.List.{List, [], ◌∷◌}
use native.Mathlib.Nat.{le_refl, sub-zero}
use native.Mathlib.Omega.{arith}
use lib.Dec.{leb}
use lib.Ieee.{Float}
use lib.ListN.{length, take, drop, length-drop}
use lib.Seq.{length-take-le}
use borrow.Author.Tests.{le-leb, lt-leb}
use Rattle.base.specs.Limits.{LAST_RANGE, MOST_INCLUDED}
use Rattle.base.specs.Inner.Limits.{MOST_LETTERS}
use Rattle.base.proofs.Laws.Tests.{cond_both}
use Rattle.cd_work.specs.Inner.Layout.{letters_start, lacks_start, order_start}
use Rattle.cd_work.specs.Inner.Parts.{Room, Kept, numbers_in, letters_in}
use Rattle.cd_work.proofs.Laws.Layer.{kept_same, kept_on}
use Rattle.cd_work.proofs.Laws.Text as text
use Rattle.cd_layers.specs.Layers.{Layer}
use Rattle.cd_layers.proofs.Laws.Joining.{letters_at_lem}
use Rattle.cd_letters.specs.Letters.{count, ranking}
use Rattle.cd_letters.specs.Inner.LayerLetters.{layer_letters}
use Rattle.cd_letters.specs.Inner.Ranked.{Ranked}
use Rattle.cd_letters.proofs.Laws.Letters.{ranking_fewer}
use Rattle.cd_letters.proofs.Laws.LayerLetters.{letters_size, letters_same, letters_others}
use Rattle.cd_letters.proofs.Laws.Ranked.{ranked_few, ranked_order}
use Rattle.cd_taken_meaning.specs.Taken.{DOT_ABOVE}
use Rattle.cd_taken_meaning.specs.Accents.{some_accented}
use Rattle.cd_taken_meaning.specs.Inner.Area.{FewUndotted}
use Rattle.cd_matches.specs.Inner.LayerRead.{layer_read}
use Rattle.cd_matches.proofs.Laws.Matches.{layer_few}
use Rattle.cd_best.specs.declared.Standing.{Standing}
use Rattle.cd_best.specs.Inner.Standing.{MOST_BEFORE, start}
use Rattle.cd_meaning.specs.Inner.Comparable.{Comparable}
use Rattle.cd_meaning.specs.Inner.After.{order_after, layer_after, layers_after}
use Rattle.cd_meaning.specs.Inner.Reading.{read_from}

-- a layer has one letter more at most than the longest text has code points, U+0307
pub layer_distinct : (n k : ℕ) (w : List ℕ) → Room n w → FewUndotted n w → length (ranking (layer_letters n k w)) ≤ MOST_LETTERS
layer_distinct n k w z f =
    omega (arith, f, ranking_fewer (layer_letters n k w) DOT_ABOVE, letters_others DOT_ABOVE n k n w (omega (arith, z.wide)))

module _ (threshold : Float) (small : ℕ) (classes t included : List ℕ) where
  -- the layers by number are 01's, where each has the letters of its number
  read_rest : (n : ℕ) (w : List ℕ) (k : ℕ) (ys : List Layer) (s : Standing)
      → ((j : ℕ) → j < length ys → letters_at_lem j ys ≡ layer_letters n (k + j + 1) w)
      → (read_from threshold small classes t included) n w k (length ys) s ≡ layers_after threshold small classes t included s ys
  unfolding read_from layers_after
  read_rest n w k [] s e = refl
  read_rest n w k (y ∷ ys) s e =
      let here : y.letters ≡ layer_letters n (k + 1) w = e 0 (omega arith) ∙ ap (λ (j : ℕ). layer_letters n j w) (omega arith) in
      rw here
      (read_rest n w (k + 1) ys (layer_after threshold small classes t included s (layer_letters n (k + 1) w))
      (λ j h. e (suc j) (omega (arith, h)) ∙ ap (λ (i : ℕ). layer_letters n i w) (omega arith)))

  pub read_layers : (n : ℕ) (w : List ℕ) (ys : List Layer) (s : Standing)
      → ((j : ℕ) → letters_at_lem j ys ≡ layer_letters n (j + 1) w)
      → (read_from threshold small classes t included) n w 0 (length ys) s ≡ layers_after threshold small classes t included s ys
  read_layers n w ys s e = read_rest n w 0 ys s (λ j h. e j ∙ ap (λ (i : ℕ). layer_letters n i w) (omega arith))

  -- only the numbers and letters matter
  pub read_same : (n : ℕ) (v w : List ℕ) (k m : ℕ) (s : Standing) → take (lacks_start n) v ≡ take (lacks_start n) w
      → (read_from threshold small classes t included) n v k m s ≡ (read_from threshold small classes t included) n w k m s
  unfolding read_from
  read_same n v w k zero s e = refl
  read_same n v w k (suc m) s e = rw (letters_same n (k + 1) n v w (le_refl n) e) (read_same n v w (k + 1) m _ e)

  module _ (good : Comparable classes t included) where
    pub layer_after_few : (s : Standing) (l : List ℕ) → (layer_after threshold small classes t included s l).sufficient ≤ s.sufficient + MOST_INCLUDED
    unfolding layer_after order_after
    layer_after_few s l =
        cond_both (λ (z : Standing). z.sufficient ≤ s.sufficient + MOST_INCLUDED) (leb (length l) small) s
        (layer_read threshold t included (some_accented classes (ranking l)) (ranking l) s)
        (omega arith)
        (layer_few t included (some_accented classes (ranking l)) (ranking l) good.languages good.included threshold s)

  module _ (n k : ℕ) (w : List ℕ) (z : Room n w) (s : Standing) where
    -- as many letters as its number stands in the list
    layer_size : length (layer_letters n k w) ≡ count k (take n w)
    layer_size =
        letters_size k (numbers_in n n w) (letters_in n n w)
        (length-take-le n w (omega (arith, z.wide))
        ∙ sym (length-take-le n (drop (letters_start n) w) (omega (arith, z.wide, length-drop (letters_start n) w))))

    pub layer_skipped : count k (take n w) ≤ small → s ≡ layer_after threshold small classes t included s (layer_letters n k w)
    unfolding layer_after
    layer_skipped h = rw (layer_size, le-leb (count k (take n w)) small h)

    module _ {v : List ℕ} {d : ℕ} (r : Ranked n k w v d) {begin : ℕ} (a : begin ≡ order_start n) where
      -- the letters in order, as they stand in the area
      abbrev standing : List ℕ
      standing = take (begin + d - begin) (drop begin v)

      pub standing_is : standing ≡ ranking (layer_letters n k w)
      standing_is =
          let e : order_start n + d - order_start n ≡ d = omega arith in
          rw (a, e) (ranked_order n k w r z)

      pub standing_few : FewUndotted n w → length standing ≤ MOST_LETTERS
      standing_few f = omega (arith, ap length standing_is, layer_distinct n k w z f)

      pub standing_end : begin + d ≤ length w
      standing_end = omega (arith, a, ranked_few n k w r z, z.wide)

      pub layer_taken : small < count k (take n w) → (x : Standing) → x ≡ order_after threshold classes t included s standing
          → x ≡ layer_after threshold small classes t included s (layer_letters n k w)
      unfolding layer_after
      layer_taken h x e = e ∙ rw (standing_is, layer_size, lt-leb (count k (take n w)) small h)

  module _ (n : ℕ) (w : List ℕ) (total : ℕ) where
    -- k layers are read, and s is what they come to
    pub record Reading (v : List ℕ) (s : Standing) (k : ℕ) : Type 0 where
      pub below : k ≤ total
      pub kept : Kept n w v
      pub few : s.sufficient ≤ MOST_INCLUDED * k
      pub rest : (read_from threshold small classes t included) n w k (total - k) s ≡ (read_from threshold small classes t included) n w 0 total start

    pub read_start : Reading w start 0
    unfolding start
    read_start = record { below = omega arith; kept = kept_same n w; few = omega arith; rest = rw sub-zero }

    module _ {v : List ℕ} {s : Standing} {k : ℕ} (g : Reading v s k) where
      pub read_more : Comparable classes t included → k < total → (u : List ℕ) (x : Standing) → Kept n v u
          → x ≡ layer_after threshold small classes t included s (layer_letters n (k + 1) v) → Reading u x (k + 1)
      unfolding read_from
      read_more good h u x l e =
          let same : layer_letters n (k + 1) v ≡ layer_letters n (k + 1) w = letters_same n (k + 1) n v w (le_refl n) g.kept.text in
          let one : total - k ≡ suc (total - (k + 1)) = omega arith in
          record {
            below = omega arith;
            kept = kept_on g.kept l;
            few = rw e (omega (arith, g.few, layer_after_few good s (layer_letters n (k + 1) v)));
            rest = rw (e, same) (rw one at g.rest);
          }

      pub read_room : Room n w → Room n v
      read_room z = record { few = z.few; wide = omega (arith, z.wide, g.kept.size) }

      pub read_undotted : FewUndotted n w → FewUndotted n v
      read_undotted f = rw (text.letters_same n n v w (le_refl n) g.kept.text) f

      -- there are at most LAST-RANGE layers
      pub read_bound : total ≤ LAST_RANGE → s.sufficient ≤ MOST_BEFORE
      read_bound h = omega (arith, g.few, g.below, h)

      pub read_end : total ≤ k → s ≡ (read_from threshold small classes t included) n w 0 total start
      unfolding read_from
      read_end h = let none : total - k ≡ 0 = omega arith in rw none at g.rest
