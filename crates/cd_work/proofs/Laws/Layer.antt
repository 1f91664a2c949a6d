-- The two parts of the layer that is read: `layer_size`, `_text`, `_lacks`, `_order`, `_back` of an area into which both were put; `layer_layer`,
-- `layer_again`: both put once more; `layer_kept_lem`: nothing else has changed.
-- Assumes nothing.
use Prim.Native.Nat.{ℕ, ◌+◌, ◌-◌, ◌≤◌}
use mathlib.Core.Path.{◌≡◌, refl, ◌∙◌}
use mathlib.Core.List.{List, [], ◌++◌, append-nil}
use native.Mathlib.Omega.{arith}
use lib.ListN.{length, take, drop, length-append, length-drop, drop_of_length-le}
use Rattle.base.specs.Put.{put}
use Rattle.base.proofs.Laws.Put.{put_length, put_front, put_part, put_beyond, put_nothing, put_over, put_swap}
use Rattle.cd_work.specs.Inner.Layout.{words, lacks_start, order_start}
use Rattle.cd_work.specs.Inner.Parts.{lacks_in, order_in, with_layer, Kept}

module _ (n : ℕ) (w ls s : List ℕ) (z : words n ≤ length w) (a : length ls ≤ n) (b : length s ≤ n) where
  low : lacks_start n + length ls ≤ length w
  low = omega arith

  high : order_start n + length s ≤ length (put w (lacks_start n) ls)
  high = rw (put_length w (lacks_start n) ls low) (omega arith)

  pub layer_size : length (with_layer n w ls s) ≡ length w
  unfolding with_layer
  layer_size = put_length (put w (lacks_start n) ls) (order_start n) s high ∙ put_length w (lacks_start n) ls low

  pub layer_text : take (lacks_start n) (with_layer n w ls s) ≡ take (lacks_start n) w
  unfolding with_layer
  layer_text =
      put_front (put w (lacks_start n) ls) (order_start n) s high (lacks_start n) (omega arith)
      ∙ put_front w (lacks_start n) ls low (lacks_start n) (omega arith)

  pub layer_lacks : lacks_in n (length ls) (with_layer n w ls s) ≡ ls
  unfolding with_layer
  layer_lacks =
      rw (put_swap w (lacks_start n) ls (order_start n) s (omega arith) (omega arith) 0)
      (put_part (put w (order_start n) s) (lacks_start n) ls (rw (put_length w (order_start n) s (omega arith)) low))

  pub layer_order : order_in n (length s) (with_layer n w ls s) ≡ s
  unfolding with_layer
  layer_order = put_part (put w (lacks_start n) ls) (order_start n) s high

  pub layer_back : drop (words n) (with_layer n w ls s) ≡ drop (words n) w
  unfolding with_layer
  layer_back =
      put_beyond (put w (lacks_start n) ls) (order_start n) s high (words n) (omega arith)
      ∙ put_beyond w (lacks_start n) ls low (words n) (omega arith)

  pub layer_kept_lem : Kept n w (with_layer n w ls s)
  layer_kept_lem = record { size = layer_size; text = layer_text; back = layer_back }

  -- two more lists put
  pub layer_layer : (ls' s' : List ℕ) → length ls' ≤ n → length s' ≤ n
      → with_layer n (with_layer n w ls s) ls' s' ≡ with_layer n w (ls' ++ drop (length ls') ls) (s' ++ drop (length s') s)
  unfolding with_layer
  layer_layer ls' s' c d =
      let e : length (ls' ++ drop (length ls') ls) ≡ length ls' + (length ls - length ls') =
      length-append ls' (drop (length ls') ls) ∙ rw (length-drop (length ls') ls) in
      let y : length (put w (lacks_start n) (ls' ++ drop (length ls') ls)) ≡ length w =
      put_length w (lacks_start n) (ls' ++ drop (length ls') ls) (omega (arith, e)) in
      rw (
        ← put_swap (put w (lacks_start n) ls) (lacks_start n) ls' (order_start n) s (omega arith) (omega (arith, put_length w (lacks_start n) ls low)) 0,
        put_over w (lacks_start n) ls ls' low (omega arith) 0,
      )
      (put_over (put w (lacks_start n) (ls' ++ drop (length ls') ls)) (order_start n) s s' (omega (arith, y)) (omega (arith, y)) 0)

  -- where they are no shorter, nothing is left of the first two
  pub layer_again : (ls' s' : List ℕ) → length ls' ≤ n → length s' ≤ n → length ls ≤ length ls' → length s ≤ length s'
      → with_layer n (with_layer n w ls s) ls' s' ≡ with_layer n w ls' s'
  layer_again ls' s' c d e f =
      layer_layer ls' s' c d
      ∙ rw (drop_of_length-le ls {i = length ls'} e, drop_of_length-le s {i = length s'} f, append-nil ls', append-nil s')

pub layer_nothing : (n : ℕ) (w : List ℕ) → with_layer n w [] [] ≡ w
unfolding with_layer
layer_nothing n w = put_nothing (put w (lacks_start n) []) (order_start n) ∙ put_nothing w (lacks_start n)

pub kept_same : (n : ℕ) (w : List ℕ) → Kept n w w
kept_same n w = record { size = refl; text = refl; back = refl }

pub kept_on : {n : ℕ} {w v u : List ℕ} → Kept n w v → Kept n v u → Kept n w u
kept_on a b = record { size = b.size ∙ a.size; text = b.text ∙ a.text; back = b.back ∙ a.back }
