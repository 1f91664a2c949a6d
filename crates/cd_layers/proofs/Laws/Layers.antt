-- The layers of 01 and the layers by number are the same: `layer_letters_lem`: each layer is the letters of its own characters, in text order
-- (`layer_alone`: where each lowers to one); `layer_keys`, `layer_count`: as many layers, with the same keys. And `layers_total`: the layers'
-- lengths add up to the number of taken letters.
-- Assumes nothing.
use Prim.Native.Nat.{ℕ, suc, ◌+◌}
use mathlib.Core.Path.{◌≡◌, refl, sym, ap, ◌∙◌}
use mathlib.Core.Bool.{Bool, true, false, cond}
use mathlib.Core.List.{List, [], ◌∷◌, ◌++◌, append_assoc, append-nil}
use native.Mathlib.Numerals.{add-one}
use native.Mathlib.Nat.{zero-add}
use native.Mathlib.Omega.{arith}
use lib.ListN.{length}
use lib.Dec.{eqb, eqb-suc-suc}
use borrow.Author.Tests.{ne_eqb}
use Rattle.cd_layers.specs.Layers.{Taken, Layer, joined, split_from, alpha_unicode_split}
use Rattle.cd_layers.specs.Inner.Numbers.{layer_for, keys_with, numbers_from, keys_from, numbers, keys_of, letters_of}
use Rattle.cd_layers.proofs.Laws.Numbers.{lowered_of, alone, taken_of}
use Rattle.cd_layers.proofs.Laws.Joining.{keys_in, letters_at_lem, lengths, taken_letters, keys_length, joined_keys, joined_letters, joined_lengths}

module _ (pairs : List ℕ) where
  split_keys : (bs : List ℕ) (ls : List (List ℕ)) (ys : List Layer) → length bs ≡ length ls
      → keys_in (split_from pairs ys (taken_of bs ls)) ≡ keys_from pairs (keys_in ys) bs
  unfolding split_from taken_of keys_from
  split_keys [] ls ys h = refl
  split_keys (b ∷ bs) [] ys h = absurd (omega arith)
  split_keys (b ∷ bs) (l ∷ ls) ys h =
      go (eqb b 0) (split_keys bs ls ys (omega arith))
      (split_keys bs ls (joined pairs ys (record { range = b; letters = l })) (omega arith)
      ∙ ap (λ (ks : List ℕ). keys_from pairs ks bs) (joined_keys pairs ys (record { range = b; letters = l })))
    where
      go : (t : Bool) → keys_in (split_from pairs ys (taken_of bs ls)) ≡ keys_from pairs (keys_in ys) bs
          → keys_in (split_from pairs (joined pairs ys (record { range = b; letters = l })) (taken_of bs ls)) ≡ keys_from pairs (keys_with pairs (keys_in ys) b) bs
          → keys_in (split_from pairs ys (cond t (taken_of bs ls) (record { range = b; letters = l } ∷ taken_of bs ls)))
          ≡ cond t (keys_from pairs (keys_in ys) bs) (keys_from pairs (keys_with pairs (keys_in ys) b) bs)
      go true e f = e
      go false e f = f

  split_letters : (k : ℕ) (bs : List ℕ) (ls : List (List ℕ)) (ys : List Layer) → length bs ≡ length ls
      → letters_at_lem k (split_from pairs ys (taken_of bs ls)) ≡ letters_at_lem k ys ++ lowered_of (k + 1) (numbers_from pairs (keys_in ys) bs) ls
  unfolding split_from taken_of numbers_from lowered_of
  split_letters k [] ls ys h = sym (append-nil (letters_at_lem k ys))
  split_letters k (b ∷ bs) [] ys h = absurd (omega arith)
  split_letters k (b ∷ bs) (l ∷ ls) ys h =
      go (eqb b 0) (split_letters k bs ls ys (omega arith))
      (split_letters k bs ls (joined pairs ys (record { range = b; letters = l })) (omega arith)
      ∙ rw (joined_keys pairs ys (record { range = b; letters = l }), joined_letters pairs ys (record { range = b; letters = l }) k)
      (taken (eqb (layer_for pairs (keys_in ys) b) k) refl))
    where
      same : eqb (layer_for pairs (keys_in ys) b + 1) (k + 1) ≡ eqb (layer_for pairs (keys_in ys) b) k
      same = rw (add-one k, add-one (layer_for pairs (keys_in ys) b)) (eqb-suc-suc (layer_for pairs (keys_in ys) b) k)

      taken : (t : Bool) → eqb (layer_for pairs (keys_in ys) b) k ≡ t
          → cond t (letters_at_lem k ys ++ l) (letters_at_lem k ys) ++ lowered_of (k + 1) (numbers_from pairs (keys_with pairs (keys_in ys) b) bs) ls
          ≡ letters_at_lem k ys ++ lowered_of (k + 1) ((layer_for pairs (keys_in ys) b + 1) ∷ numbers_from pairs (keys_with pairs (keys_in ys) b) bs) (l ∷ ls)
      taken true e = rw (same, e) (append_assoc (letters_at_lem k ys) l (lowered_of (k + 1) (numbers_from pairs (keys_with pairs (keys_in ys) b) bs) ls))
      taken false e = rw (same, e)

      go : (t : Bool)
          → letters_at_lem k (split_from pairs ys (taken_of bs ls)) ≡ letters_at_lem k ys ++ lowered_of (k + 1) (numbers_from pairs (keys_in ys) bs) ls
          → letters_at_lem k (split_from pairs (joined pairs ys (record { range = b; letters = l })) (taken_of bs ls))
          ≡ letters_at_lem k ys ++ lowered_of (k + 1) ((layer_for pairs (keys_in ys) b + 1) ∷ numbers_from pairs (keys_with pairs (keys_in ys) b) bs) (l ∷ ls)
          → letters_at_lem k (split_from pairs ys (cond t (taken_of bs ls) (record { range = b; letters = l } ∷ taken_of bs ls)))
          ≡ letters_at_lem k ys
          ++ lowered_of (k + 1)
          (cond t (0 ∷ numbers_from pairs (keys_in ys) bs) ((layer_for pairs (keys_in ys) b + 1) ∷ numbers_from pairs (keys_with pairs (keys_in ys) b) bs))
          (l ∷ ls)
      go true e f = rw (ne_eqb 0 (k + 1) no) e
        where
          no : 0 ≡ k + 1 → ⊥
          no z = omega arith
      go false e f = f

  split_total : (cs : List Taken) (ys : List Layer) → lengths (split_from pairs ys cs) ≡ lengths ys + taken_letters cs
  unfolding split_from
  split_total [] ys = omega arith
  split_total (c ∷ cs) ys = omega (arith, split_total cs (joined pairs ys c), joined_lengths pairs ys c)

  module _ (bs : List ℕ) (ls : List (List ℕ)) (h : length bs ≡ length ls) where
    -- each layer is the letters of the characters with its number, in text order
    pub layer_letters_lem : (k : ℕ) → letters_at_lem k (alpha_unicode_split pairs (taken_of bs ls)) ≡ lowered_of (k + 1) (numbers pairs bs) ls
    unfolding alpha_unicode_split
    layer_letters_lem k = split_letters k bs ls [] h

    pub layer_keys : keys_in (alpha_unicode_split pairs (taken_of bs ls)) ≡ keys_of pairs bs
    unfolding alpha_unicode_split
    layer_keys = split_keys bs ls [] h

    pub layer_count : length (alpha_unicode_split pairs (taken_of bs ls)) ≡ length (keys_of pairs bs)
    layer_count = sym (keys_length (alpha_unicode_split pairs (taken_of bs ls))) ∙ ap length layer_keys

  -- the same where each character lowers to one letter
  alone_length : (xs : List ℕ) → length (alone xs) ≡ length xs
  alone_length [] = refl
  alone_length (x ∷ xs) = ap suc (alone_length xs)

  alone_letters : (k : ℕ) (ms xs : List ℕ) → lowered_of k ms (alone xs) ≡ letters_of k ms xs
  unfolding lowered_of letters_of
  alone_letters k [] xs = refl
  alone_letters k (m ∷ ms) [] = refl
  alone_letters k (m ∷ ms) (x ∷ xs) = rw (alone_letters k ms xs)

  pub layer_alone : (bs xs : List ℕ) → length bs ≡ length xs
      → (k : ℕ) → letters_at_lem k (alpha_unicode_split pairs (taken_of bs (alone xs))) ≡ letters_of (k + 1) (numbers pairs bs) xs
  layer_alone bs xs h k = layer_letters_lem bs (alone xs) (h ∙ sym (alone_length xs)) k ∙ alone_letters (k + 1) (numbers pairs bs) xs

  -- the layers' lengths add up to the number of taken letters
  pub layers_total : (cs : List Taken) → lengths (alpha_unicode_split pairs cs) ≡ taken_letters cs
  unfolding alpha_unicode_split
  layers_total cs = split_total cs [] ∙ zero-add (taken_letters cs)
