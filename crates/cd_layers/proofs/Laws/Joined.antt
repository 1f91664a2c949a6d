-- A character's letters may join one after the other: two slots of one range, the first with the letters xs and the second with zs, join as one of
-- both (`joined_twice`). So it is also where the first made the layer, and where the pair of the range with itself is suspicious.
-- Assumes nothing.
use Prim.Native.Nat.{ℕ}
use mathlib.Core.Path.{◌≡◌, refl, ap}
use mathlib.Core.Bool.{Bool, true, false, cond, ◌||◌}
use mathlib.Core.List.{List, [], ◌∷◌, ◌++◌, append_assoc}
use native.Mathlib.Omega.{arith}
use borrow.Author.Tests.{eq-eqb}
use Rattle.base.proofs.Laws.Tests.{cond_both}
use Rattle.cd_layers.specs.Layers.{Layer, some, into_oldest, accepts, is_own, joined}

-- ---- a layer that is there
-- the keys stay
some_into : (other test : ℕ → Bool) (xs : List ℕ) (ys : List Layer) → some other (into_oldest test xs ys) ≡ some other ys
unfolding some into_oldest
some_into other test xs [] = refl
some_into other test xs (y ∷ ys) =
    cond_both (λ (zs : List Layer). some other zs ≡ other y.key || some other ys) (test y.key)
    (record { key = y.key; letters = y.letters ++ xs } ∷ ys) (y ∷ into_oldest test xs ys)
    refl (ap (λ (t : Bool). other y.key || t) (some_into other test xs ys))

into_twice : (test : ℕ → Bool) (xs zs : List ℕ) (ys : List Layer) → into_oldest test zs (into_oldest test xs ys) ≡ into_oldest test (xs ++ zs) ys
unfolding into_oldest
into_twice test xs zs [] = refl
into_twice test xs zs (y ∷ ys) = go (test y.key) refl (into_twice test xs zs ys)
  where
    go : (t : Bool) → test y.key ≡ t → into_oldest test zs (into_oldest test xs ys) ≡ into_oldest test (xs ++ zs) ys
        → into_oldest test zs (cond t (record { key = y.key; letters = y.letters ++ xs } ∷ ys) (y ∷ into_oldest test xs ys))
        ≡ cond t (record { key = y.key; letters = y.letters ++ (xs ++ zs) } ∷ ys) (y ∷ into_oldest test (xs ++ zs) ys)
    go true e i = rw (e, append_assoc y.letters xs zs)
    go false e i = rw e (ap (λ (l : List Layer). y ∷ l) i)

module _ (test : ℕ → Bool) (y : Layer) where
  some_made : (ys : List Layer) → some test ys ≡ false → some test (ys ++ (y ∷ [])) ≡ test y.key
  unfolding some
  some_made [] e = go (test y.key)
    where
      go : (t : Bool) → t || false ≡ t
      go true = refl
      go false = refl
  some_made (z ∷ ys) e = go (test z.key) e (some_made ys)
    where
      go : (t : Bool) → t || some test ys ≡ false → (some test ys ≡ false → some test (ys ++ (y ∷ [])) ≡ test y.key)
          → t || some test (ys ++ (y ∷ [])) ≡ test y.key
      go true e i = let z : ◌≡◌ {A = ℕ} 0 1 = cc in absurd (omega arith)
      go false e i = i e

  into_made : (zs : List ℕ) (ys : List Layer) → some test ys ≡ false → test y.key ≡ true
      → into_oldest test zs (ys ++ (y ∷ [])) ≡ ys ++ (record { key = y.key; letters = y.letters ++ zs } ∷ [])
  unfolding some into_oldest
  into_made zs [] e f = rw f
  into_made zs (z ∷ ys) e f = go (test z.key) e (λ h. into_made zs ys h f)
    where
      go : (t : Bool) → t || some test ys ≡ false
          → (some test ys ≡ false → into_oldest test zs (ys ++ (y ∷ [])) ≡ ys ++ (record { key = y.key; letters = y.letters ++ zs } ∷ []))
          → cond t (record { key = z.key; letters = z.letters ++ zs } ∷ (ys ++ (y ∷ []))) (z ∷ into_oldest test zs (ys ++ (y ∷ [])))
          ≡ z ∷ (ys ++ (record { key = y.key; letters = y.letters ++ zs } ∷ []))
      go true e i = let z : ◌≡◌ {A = ℕ} 0 1 = cc in absurd (omega arith)
      go false e i = ap (λ (l : List Layer). z ∷ l) (i e)

module _ (pairs : List ℕ) (ys : List Layer) (b : ℕ) (xs zs : List ℕ) where
  own : is_own b b ≡ true
  unfolding is_own
  own = eq-eqb b b refl

  pub joined_twice : joined pairs (joined pairs ys (record { range = b; letters = xs })) (record { range = b; letters = zs })
      ≡ joined pairs ys (record { range = b; letters = xs ++ zs })
  unfolding joined
  joined_twice = go (some (accepts pairs b) ys) (some (is_own b) ys) (accepts pairs b b) refl refl refl
    where
      go : (s t u : Bool) → some (accepts pairs b) ys ≡ s → some (is_own b) ys ≡ t → accepts pairs b b ≡ u
          → joined pairs (cond s (into_oldest (accepts pairs b) xs ys) (cond t (into_oldest (is_own b) xs ys) (ys ++ (record { key = b; letters = xs } ∷ [])))) (record { range = b; letters = zs })
          ≡ cond s (into_oldest (accepts pairs b) (xs ++ zs) ys) (cond t (into_oldest (is_own b) (xs ++ zs) ys) (ys ++ (record { key = b; letters = xs ++ zs } ∷ [])))
      go true t u p q r = rw (some_into (accepts pairs b) (accepts pairs b) xs ys, p) (into_twice (accepts pairs b) xs zs ys)
      go false true u p q r =
          rw (some_into (accepts pairs b) (is_own b) xs ys, p, some_into (is_own b) (is_own b) xs ys, q) (into_twice (is_own b) xs zs ys)
      go false false true p q r =
          let y : Layer = record { key = b; letters = xs } in
          rw (some_made (accepts pairs b) y ys p, r) (into_made (accepts pairs b) y zs ys p r)
      go false false false p q r =
          let y : Layer = record { key = b; letters = xs } in
          rw (some_made (accepts pairs b) y ys p, r, some_made (is_own b) y ys q, own) (into_made (is_own b) y zs ys q own)
