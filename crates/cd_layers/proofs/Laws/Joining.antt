-- One more character, in the layers and in their keys: `joined_keys`, `joined_letters`, `joined_lengths`.
-- Assumes nothing.
use Prim.Native.Nat.{ℕ, zero, suc, ◌+◌}
use mathlib.Core.Path.{◌≡◌, refl, sym, ap, ◌∙◌}
use mathlib.Core.Bool.{Bool, true, false, cond, ◌||◌}
use mathlib.Core.List.{List, [], ◌∷◌, ◌++◌}
use native.Mathlib.Omega.{arith}
use lib.ListN.{length, length-append}
use lib.Dec.{eqb, ltb, leb-suc-suc, eqb-suc-suc, eqb-zero-suc, eqb-suc-zero}
use borrow.Author.Tests.{ltb-false, lt-ltb, le-ltb}
use Rattle.base.proofs.Laws.Tests.{cond_both}
use Rattle.cd_layers.specs.Layers.{Taken, Layer, some, into_oldest, accepts, is_own, joined}
use Rattle.cd_layers.specs.Inner.Numbers.{oldest, layer_for, keys_with}
use Rattle.cd_layers.proofs.Laws.Numbers.{oldest_cons, oldest_within}

-- the layers' keys, and the letters of the layer at place k, none past the last
abbrev pub keys_in : List Layer → List ℕ
keys_in [] = []
keys_in (y ∷ ys) = y.key ∷ keys_in ys

abbrev pub letters_at_lem : ℕ → List Layer → List ℕ
letters_at_lem k [] = []
letters_at_lem zero (y ∷ ys) = y.letters
letters_at_lem (suc k) (y ∷ ys) = letters_at_lem k ys

-- how many letters the layers have, and how many the taken characters
abbrev pub lengths : List Layer → ℕ
lengths [] = 0
lengths (y ∷ ys) = length y.letters + lengths ys

abbrev pub taken_letters : List Taken → ℕ
taken_letters [] = 0
taken_letters (c ∷ cs) = length c.letters + taken_letters cs

-- ---- whether there is one
pub keys_length : (ys : List Layer) → length (keys_in ys) ≡ length ys
keys_length [] = refl
keys_length (y ∷ ys) = ap suc (keys_length ys)

some_oldest : (test : ℕ → Bool) (ys : List Layer) → some test ys ≡ ltb (oldest test (keys_in ys)) (length (keys_in ys))
unfolding some
some_oldest test [] = sym (le-ltb (oldest test []) 0 (omega arith))
some_oldest test (y ∷ ys) = rw (oldest_cons test y.key (keys_in ys)) (go (test y.key) (some_oldest test ys))
  where
    go : (t : Bool) → some test ys ≡ ltb (oldest test (keys_in ys)) (length (keys_in ys))
        → t || some test ys ≡ ltb (cond t 0 (suc (oldest test (keys_in ys)))) (suc (length (keys_in ys)))
    go true e = sym (lt-ltb 0 (suc (length (keys_in ys))) (omega arith))
    go false e = e ∙ sym (leb-suc-suc (suc (oldest test (keys_in ys))) (length (keys_in ys)))

module _ (test : ℕ → Bool) (xs : List ℕ) where
  into_keys : (ys : List Layer) → keys_in (into_oldest test xs ys) ≡ keys_in ys
  unfolding into_oldest
  into_keys [] = refl
  into_keys (y ∷ ys) =
      cond_both (λ (zs : List Layer). keys_in zs ≡ y.key ∷ keys_in ys) (test y.key)
      (record { key = y.key; letters = y.letters ++ xs } ∷ ys) (y ∷ into_oldest test xs ys) refl (ap (λ (l : List ℕ). y.key ∷ l) (into_keys ys))

  into_letters : (k : ℕ) (ys : List Layer) → some test ys ≡ true
      → letters_at_lem k (into_oldest test xs ys) ≡ cond (eqb (oldest test (keys_in ys)) k) (letters_at_lem k ys ++ xs) (letters_at_lem k ys)
  unfolding some into_oldest
  into_letters k [] e = let z : ◌≡◌ {A = ℕ} 0 1 = cc in absurd (omega arith)
  into_letters zero (y ∷ ys) e = rw (oldest_cons test y.key (keys_in ys)) (go (test y.key))
    where
      go : (t : Bool) → letters_at_lem 0 (cond t (record { key = y.key; letters = y.letters ++ xs } ∷ ys) (y ∷ into_oldest test xs ys))
          ≡ cond (eqb (cond t 0 (suc (oldest test (keys_in ys)))) 0) (y.letters ++ xs) y.letters
      go true = refl
      go false = rw (eqb-suc-zero (oldest test (keys_in ys)))
  into_letters (suc k) (y ∷ ys) e = rw (oldest_cons test y.key (keys_in ys)) (go (test y.key) e (into_letters k ys))
    where
      go : (t : Bool) → t || some test ys ≡ true
          → (some test ys ≡ true → letters_at_lem k (into_oldest test xs ys) ≡ cond (eqb (oldest test (keys_in ys)) k) (letters_at_lem k ys ++ xs) (letters_at_lem k ys))
          → letters_at_lem (suc k) (cond t (record { key = y.key; letters = y.letters ++ xs } ∷ ys) (y ∷ into_oldest test xs ys))
          ≡ cond (eqb (cond t 0 (suc (oldest test (keys_in ys)))) (suc k)) (letters_at_lem k ys ++ xs) (letters_at_lem k ys)
      go true e i = rw (eqb-zero-suc k)
      go false e i = rw (eqb-suc-suc (oldest test (keys_in ys)) k) (i e)

  into_lengths : (ys : List Layer) → some test ys ≡ true → lengths (into_oldest test xs ys) ≡ lengths ys + length xs
  unfolding some into_oldest
  into_lengths [] e = let z : ◌≡◌ {A = ℕ} 0 1 = cc in absurd (omega arith)
  into_lengths (y ∷ ys) e = go (test y.key) e (into_lengths ys)
    where
      go : (t : Bool) → t || some test ys ≡ true → (some test ys ≡ true → lengths (into_oldest test xs ys) ≡ lengths ys + length xs)
          → lengths (cond t (record { key = y.key; letters = y.letters ++ xs } ∷ ys) (y ∷ into_oldest test xs ys))
          ≡ length y.letters + lengths ys + length xs
      go true e i = omega (arith, length-append y.letters xs)
      go false e i = omega (arith, i e)

-- ---- a layer is made
made_keys : (ys : List Layer) (y : Layer) → keys_in (ys ++ (y ∷ [])) ≡ keys_in ys ++ (y.key ∷ [])
made_keys [] y = refl
made_keys (z ∷ ys) y = ap (λ (l : List ℕ). z.key ∷ l) (made_keys ys y)

made_letters : (k : ℕ) (ys : List Layer) (y : Layer)
    → letters_at_lem k (ys ++ (y ∷ [])) ≡ cond (eqb (length (keys_in ys)) k) (letters_at_lem k ys ++ y.letters) (letters_at_lem k ys)
made_letters zero [] y = refl
made_letters (suc k) [] y = rw (eqb-zero-suc k)
made_letters zero (z ∷ ys) y = rw (eqb-suc-zero (length (keys_in ys)))
made_letters (suc k) (z ∷ ys) y = rw (eqb-suc-suc (length (keys_in ys)) k) (made_letters k ys y)

made_lengths : (ys : List Layer) (y : Layer) → lengths (ys ++ (y ∷ [])) ≡ lengths ys + length y.letters
made_lengths [] y = omega arith
made_lengths (z ∷ ys) y = omega (arith, made_lengths ys y)

module _ (pairs : List ℕ) (ys : List Layer) (c : Taken) where
  -- the three ways to join: a layer that accepts the range, its own, a new one
  ways : (P : List Layer → ℕ → List ℕ → Type 0)
      → ((j : ℕ) (test : ℕ → Bool) → some test ys ≡ true → j ≡ oldest test (keys_in ys) → P (into_oldest test c.letters ys) j (keys_in ys))
      → P (ys ++ (record { key = c.range; letters = c.letters } ∷ [])) (length (keys_in ys)) (keys_in ys ++ (c.range ∷ []))
      → P (joined pairs ys c) (layer_for pairs (keys_in ys) c.range) (keys_with pairs (keys_in ys) c.range)
  unfolding joined layer_for keys_with
  ways P old new =
      rw (← some_oldest (accepts pairs c.range) ys)
      (go (some (accepts pairs c.range) ys) (some (is_own c.range) ys) refl refl)
    where
      go : (s t : Bool) → some (accepts pairs c.range) ys ≡ s → some (is_own c.range) ys ≡ t
          → P
          (cond s (into_oldest (accepts pairs c.range) c.letters ys)
          (cond t (into_oldest (is_own c.range) c.letters ys) (ys ++ (record { key = c.range; letters = c.letters } ∷ []))))
          (cond s (oldest (accepts pairs c.range) (keys_in ys)) (oldest (is_own c.range) (keys_in ys)))
          (cond
          (ltb (cond s (oldest (accepts pairs c.range) (keys_in ys)) (oldest (is_own c.range) (keys_in ys))) (length (keys_in ys)))
          (keys_in ys) (keys_in ys ++ (c.range ∷ [])))
      go true t p q =
          let l : ltb (oldest (accepts pairs c.range) (keys_in ys)) (length (keys_in ys)) ≡ true = sym (some_oldest (accepts pairs c.range) ys) ∙ p in
          rw l (old (oldest (accepts pairs c.range) (keys_in ys)) (accepts pairs c.range) p refl)
      go false true p q =
          let l : ltb (oldest (is_own c.range) (keys_in ys)) (length (keys_in ys)) ≡ true = sym (some_oldest (is_own c.range) ys) ∙ q in
          rw l (old (oldest (is_own c.range) (keys_in ys)) (is_own c.range) q refl)
      go false false p q =
          let l : ltb (oldest (is_own c.range) (keys_in ys)) (length (keys_in ys)) ≡ false = sym (some_oldest (is_own c.range) ys) ∙ q in
          let m : oldest (is_own c.range) (keys_in ys) ≡ length (keys_in ys) =
          omega (arith, ltb-false (oldest (is_own c.range) (keys_in ys)) (length (keys_in ys)) l, oldest_within (is_own c.range) (keys_in ys)) in
          rw (l, m) new

  pub joined_keys : keys_in (joined pairs ys c) ≡ keys_with pairs (keys_in ys) c.range
  joined_keys =
      ways (λ zs j ks. keys_in zs ≡ ks) (λ j test e p. into_keys test c.letters ys)
      (made_keys ys (record { key = c.range; letters = c.letters }))

  pub joined_letters : (k : ℕ) → letters_at_lem k (joined pairs ys c)
      ≡ cond (eqb (layer_for pairs (keys_in ys) c.range) k) (letters_at_lem k ys ++ c.letters) (letters_at_lem k ys)
  joined_letters k =
      ways (λ zs j ks. letters_at_lem k zs ≡ cond (eqb j k) (letters_at_lem k ys ++ c.letters) (letters_at_lem k ys))
      (λ j test e p. rw p (into_letters test c.letters k ys e))
      (made_letters k ys (record { key = c.range; letters = c.letters }))

  pub joined_lengths : lengths (joined pairs ys c) ≡ lengths ys + length c.letters
  joined_lengths =
      ways (λ zs j ks. lengths zs ≡ lengths ys + length c.letters) (λ j test e p. into_lengths test c.letters ys e)
      (made_lengths ys (record { key = c.range; letters = c.letters }))
