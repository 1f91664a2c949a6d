-- What holds of the layers by number: `layer_within`, `layer_new`, `keys_old`, `keys_new` of one more character; `numbers_length`;
-- `number_none`, `number_within`: a character has a number exactly if it is taken, and it is a layer's; `layers_few`: there are at most LAST-RANGE
-- layers.
-- Assumes nothing.
use Prim.Native.Nat.{ℕ, zero, suc, ◌+◌, ◌≤◌, ◌<◌}
use mathlib.Core.Bool.{cond, Bool, true, false}
use mathlib.Core.List.{List, [], ◌∷◌, ◌++◌}
use lib.Dec.{eqb, ltb, lit<}
use mathlib.Core.Path.{◌≡◌, refl, sym, ap}
use native.Mathlib.Nat.{suc-add, not-suc-le-zero, le_of_suc-le-suc}
use native.Mathlib.Omega.{arith}
use lib.ListN.{length, get_or, length-append}
use borrow.Author.Tests.{ltb-true, lt-ltb, le-ltb, eqb-false, ne_eqb}
use Rattle.base.specs.First.{first, seek}
use Rattle.base.proofs.Laws.First.{first_before, first_within}
use Rattle.base.specs.Limits.{LAST_RANGE, RANGES}
use Rattle.base.proofs.Laws.Tests.{by_test, cond_both, split}
use Rattle.cd_layers.specs.Layers.{Taken, accepts, is_own}
use Rattle.cd_layers.specs.Inner.Numbers.{oldest, layer_for, keys_with, numbers_from, keys_from, numbers, keys_of, Below}
use Rattle.cd_layers.proofs.Laws.Few.{New, Marks, marks_start, marks_more, marks_few}

-- the letters of the characters that have the number k, in text order
unfoldable pub lowered_of : ℕ → List ℕ → List (List ℕ) → List ℕ
lowered_of k [] ls = []
lowered_of k (m ∷ ms) [] = []
lowered_of k (m ∷ ms) (l ∷ ls) = cond (eqb m k) (l ++ lowered_of k ms ls) (lowered_of k ms ls)

abbrev pub alone : List ℕ → List (List ℕ)
alone [] = []
alone (x ∷ xs) = (x ∷ []) ∷ alone xs

-- the characters that are taken
unfoldable pub taken_of : List ℕ → List (List ℕ) → List Taken
taken_of [] ls = []
taken_of (b ∷ bs) [] = []
taken_of (b ∷ bs) (l ∷ ls) = cond (eqb b 0) (taken_of bs ls) (record { range = b; letters = l } ∷ taken_of bs ls)

-- ---- the oldest
seek_shift : (f : ℕ → Bool) (n i : ℕ) → seek f n (suc i) ≡ suc (seek (λ j. f (suc j)) n i)
unfolding seek
seek_shift f zero i = refl
seek_shift f (suc n) i = go (f (suc i)) (rw (suc-add i 1) (seek_shift f n (i + 1)))
  where
    go : (t : Bool) → seek f n (suc i + 1) ≡ suc (seek (λ j. f (suc j)) n (i + 1))
        → cond t (suc i) (seek f n (suc i + 1)) ≡ suc (cond t i (seek (λ j. f (suc j)) n (i + 1)))
    go true e = refl
    go false e = e

pub oldest_cons : (test : ℕ → Bool) (a : ℕ) (ks : List ℕ) → oldest test (a ∷ ks) ≡ cond (test a) 0 (suc (oldest test ks))
unfolding oldest first seek
oldest_cons test a ks = ap (cond (test a) 0) (seek_shift (λ j. test (get_or (a ∷ ks) j 0)) (length ks) 0)

pub oldest_within : (test : ℕ → Bool) (ks : List ℕ) → oldest test ks ≤ length ks
unfolding oldest
oldest_within test ks = first_within (λ j. test (get_or ks j 0)) (length ks)

module _ (pairs keys : List ℕ) (b : ℕ) where
  pub layer_within : layer_for pairs keys b ≤ length keys
  unfolding layer_for
  layer_within =
      cond_both (λ (j : ℕ). j ≤ length keys) (ltb (oldest (accepts pairs b) keys) (length keys)) (oldest (accepts pairs b) keys)
      (oldest (is_own b) keys) (oldest_within (accepts pairs b) keys) (oldest_within (is_own b) keys)

  not_own : length keys ≤ oldest (is_own b) keys → New keys b
  unfolding oldest is_own
  not_own h j l e = eqb-false (get_or keys j 0) b (first_before (λ j. eqb (get_or keys j 0) b) (length keys) j (omega arith)) e

  -- a layer that is not there yet has a new key
  pub layer_new : length keys ≤ layer_for pairs keys b → New keys b
  unfolding layer_for
  layer_new =
      by_test (λ (j : ℕ). length keys ≤ j → New keys b) (ltb (oldest (accepts pairs b) keys) (length keys))
      (oldest (accepts pairs b) keys) (oldest (is_own b) keys)
      (λ e h. let l : oldest (accepts pairs b) keys < length keys = ltb-true (oldest (accepts pairs b) keys) (length keys) e in absurd (no l h))
      (λ e h. not_own h)
    where
      no : {m n : ℕ} → m < n → n ≤ m → ⊥
      no p q = omega arith

module _ (pairs : List ℕ) where
  pub keys_old : (keys : List ℕ) (b : ℕ) → layer_for pairs keys b < length keys → keys_with pairs keys b ≡ keys
  unfolding keys_with
  keys_old keys b h = simp (lt-ltb (layer_for pairs keys b) (length keys) h)

  pub keys_new : (keys : List ℕ) (b : ℕ) → length keys ≤ layer_for pairs keys b → keys_with pairs keys b ≡ keys ++ (b ∷ [])
  unfolding keys_with
  keys_new keys b h = simp (le-ltb (layer_for pairs keys b) (length keys) h)

  pub numbers_length : (keys bs : List ℕ) → length (numbers_from pairs keys bs) ≡ length bs
  unfolding numbers_from
  numbers_length keys [] = refl
  numbers_length keys (b ∷ bs) =
      cond_both (λ (l : List ℕ). length l ≡ suc (length bs)) (eqb b 0) (0 ∷ numbers_from pairs keys bs)
      ((layer_for pairs keys b + 1) ∷ numbers_from pairs (keys_with pairs keys b) bs)
      (ap suc (numbers_length keys bs)) (ap suc (numbers_length (keys_with pairs keys b) bs))

  -- the layer is among those after it
  layer_in : (keys : List ℕ) (b : ℕ) → layer_for pairs keys b < length (keys_with pairs keys b)
  layer_in keys b =
      split (layer_for pairs keys b) (length keys) (λ l. rw (keys_old keys b l) l)
      (λ l. rw (keys_new keys b l) (omega (arith, layer_within pairs keys b, length-append keys (b ∷ []))))

  keys_more : (keys : List ℕ) (b : ℕ) → length keys ≤ length (keys_with pairs keys b)
  keys_more keys b =
      split (layer_for pairs keys b) (length keys) (λ l. rw (keys_old keys b l) (omega arith))
      (λ l. rw (keys_new keys b l) (omega (arith, length-append keys (b ∷ []))))

  keys_grow : (keys bs : List ℕ) → length keys ≤ length (keys_from pairs keys bs)
  unfolding keys_from
  keys_grow keys [] = omega arith
  keys_grow keys (b ∷ bs) =
      cond_both (λ (l : List ℕ). length keys ≤ length l) (eqb b 0) (keys_from pairs keys bs) (keys_from pairs (keys_with pairs keys b) bs)
      (keys_grow keys bs) (omega (arith, keys_more keys b, keys_grow (keys_with pairs keys b) bs))

  numbers_none : (keys bs : List ℕ) (i : ℕ) → i < length bs → eqb (get_or (numbers_from pairs keys bs) i 0) 0 ≡ eqb (get_or bs i 0) 0
  unfolding numbers_from
  numbers_none keys [] i h = absurd (not-suc-le-zero h)
  numbers_none keys (b ∷ bs) zero h = go (eqb b 0)
    where
      go : (t : Bool)
          → eqb (get_or (cond t (0 ∷ numbers_from pairs keys bs) ((layer_for pairs keys b + 1) ∷ numbers_from pairs (keys_with pairs keys b) bs)) 0 0) 0 ≡ t
      go true = refl
      go false = ne_eqb (layer_for pairs keys b + 1) 0 no
        where
          no : layer_for pairs keys b + 1 ≡ 0 → ⊥
          no e = omega arith
  numbers_none keys (b ∷ bs) (suc i) h =
      cond_both (λ (l : List ℕ). eqb (get_or l (suc i) 0) 0 ≡ eqb (get_or bs i 0) 0) (eqb b 0) (0 ∷ numbers_from pairs keys bs)
      ((layer_for pairs keys b + 1) ∷ numbers_from pairs (keys_with pairs keys b) bs)
      (numbers_none keys bs i (le_of_suc-le-suc h)) (numbers_none (keys_with pairs keys b) bs i (le_of_suc-le-suc h))

  numbers_within : (keys bs : List ℕ) (i : ℕ) → get_or (numbers_from pairs keys bs) i 0 ≤ length (keys_from pairs keys bs)
  unfolding numbers_from keys_from
  numbers_within keys [] i = omega arith
  numbers_within keys (b ∷ bs) i = go i (eqb b 0) (λ j. numbers_within keys bs j) (λ j. numbers_within (keys_with pairs keys b) bs j)
    where
      go : (i : ℕ) (t : Bool) → ((j : ℕ) → get_or (numbers_from pairs keys bs) j 0 ≤ length (keys_from pairs keys bs))
          → ((j : ℕ) → get_or (numbers_from pairs (keys_with pairs keys b) bs) j 0 ≤ length (keys_from pairs (keys_with pairs keys b) bs))
          → get_or (cond t (0 ∷ numbers_from pairs keys bs) ((layer_for pairs keys b + 1) ∷ numbers_from pairs (keys_with pairs keys b) bs)) i 0
          ≤ length (cond t (keys_from pairs keys bs) (keys_from pairs (keys_with pairs keys b) bs))
      go zero true e f = omega arith
      go zero false e f = omega (arith, layer_in keys b, keys_grow (keys_with pairs keys b) bs)
      go (suc i) true e f = e i
      go (suc i) false e f = f i

  -- the keys are different ranges from 1 on
  pub key_fresh : (keys : List ℕ) (b : ℕ) → (b ≡ 0 → ⊥) → length keys ≤ layer_for pairs keys b → New (0 ∷ keys) b
  key_fresh keys b k l zero h e = k (sym e)
  key_fresh keys b k l (suc j) h e = layer_new pairs keys b l j (le_of_suc-le-suc h) e

  pub keys_start : Marks RANGES (0 ∷ [])
  keys_start = marks_more (marks_start RANGES) 0 (lit< tt) (λ j h e. not-suc-le-zero h)

  pub keys_marks : (keys : List ℕ) (b : ℕ) → Marks RANGES (0 ∷ keys) → (b ≡ 0 → ⊥) → b ≤ LAST_RANGE
      → Marks RANGES (0 ∷ keys_with pairs keys b)
  keys_marks keys b m k h =
      split (layer_for pairs keys b) (length keys) (λ l. rw (keys_old keys b l) m)
      (λ l. rw (keys_new keys b l) (marks_more m b (omega arith) (key_fresh keys b k l)))

  keys_few : (keys bs : List ℕ) → Marks RANGES (0 ∷ keys) → Below bs → length (keys_from pairs keys bs) ≤ LAST_RANGE
  unfolding keys_from
  keys_few keys [] m h = omega (arith, marks_few m)
  keys_few keys (b ∷ bs) m h =
      by_test (λ (l : List ℕ). length l ≤ LAST_RANGE) (eqb b 0) (keys_from pairs keys bs) (keys_from pairs (keys_with pairs keys b) bs)
      (λ e. keys_few keys bs m (λ j. h (suc j)))
      (λ e. keys_few (keys_with pairs keys b) bs (keys_marks keys b m (eqb-false b 0 e) (h 0)) (λ j. h (suc j)))

  module _ (bs : List ℕ) where
    -- a character has no layer exactly if it is not taken
    pub number_none : (i : ℕ) → i < length bs → eqb (get_or (numbers pairs bs) i 0) 0 ≡ eqb (get_or bs i 0) 0
    number_none i h = numbers_none [] bs i h

    -- and the number that it has is a layer's
    pub number_within : (i : ℕ) → get_or (numbers pairs bs) i 0 ≤ length (keys_of pairs bs)
    number_within i = numbers_within [] bs i

    pub layers_few : Below bs → length (keys_of pairs bs) ≤ LAST_RANGE
    layers_few h = keys_few [] bs keys_start h
