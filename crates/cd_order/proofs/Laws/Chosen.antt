-- What `passing` gives: one number more (`chosen_more`), at most n (`chosen_few`), only numbers below n that pass (`chosen_in`), all of them
-- (`chosen_all`), rising (`chosen_up`). Of numbers below n that rise there are at most n (`rises_few`).
-- Assumes nothing.
use Prim.Native.Nat.{ℕ, zero, suc, ◌+◌, ◌≤◌, ◌<◌}
use mathlib.Core.Path.{◌≡◌, refl, sym, ap, ◌∙◌}
use mathlib.Core.Logic.{inl, inr, ⊎_elim}
use mathlib.Core.Bool.{Bool, true, false, cond, true≢false}
use mathlib.Core.List.{List, [], ◌∷◌, ◌++◌}
use native.Mathlib.Nat.{eq-or-lt_of_le, add-zero, zero-add}
use native.Mathlib.Numerals.{add-one}
use native.Mathlib.Omega.{arith}
use lib.ListN.{length}
use Rattle.base.proofs.Laws.In.{In}
use Rattle.cd_order.proofs.Laws.Sorted.{Up}
use Rattle.cd_order.specs.Chosen.{passing_from, passing}

-- each above the one before
abbrev pub Rises : List ℕ → Type 0
Rises [] = Unit
Rises (x ∷ l) = Up x l

-- of numbers below n that rise there are at most n
up_few : (last n : ℕ) (l : List ℕ) → Up last l → ((x : ℕ) → In x l → x < n) → last < n → length l + last < n
up_few last n [] u b h = omega arith
up_few last n (x ∷ l) u b h = let k = u.0 in omega (arith, up_few x n l u.1 (λ y i. b y (inr i)) (b x (inl refl)), k)

pub rises_few : (n : ℕ) (l : List ℕ) → Rises l → ((x : ℕ) → In x l → x < n) → length l ≤ n
rises_few n [] u b = omega arith
rises_few n (x ∷ l) u b = omega (arith, up_few x n l u (λ y i. b y (inr i)) (b x (inl refl)))

module _ (test : ℕ → Bool) where
  from_more : (i n : ℕ) → passing_from test i (suc n) ≡ passing_from test i n ++ cond (test (i + n)) ((i + n) ∷ []) []
  unfolding passing_from
  from_more i zero = rw (add-zero i)
  from_more i (suc n) = go (test i) (from_more (i + 1) n) (omega arith)
    where
      go : (t : Bool)
          → passing_from test (i + 1) (suc n) ≡ passing_from test (i + 1) n ++ cond (test (i + 1 + n)) ((i + 1 + n) ∷ []) []
          → i + 1 + n ≡ i + suc n
          → cond t (i ∷ passing_from test (i + 1) (suc n)) (passing_from test (i + 1) (suc n))
          ≡ cond t (i ∷ passing_from test (i + 1) n) (passing_from test (i + 1) n) ++ cond (test (i + suc n)) ((i + suc n) ∷ []) []
      go true e s = ap (λ (z : List ℕ). i ∷ z) (e ∙ rw s)
      go false e s = e ∙ rw s

  from_few : (i n : ℕ) → length (passing_from test i n) ≤ n
  unfolding passing_from
  from_few i zero = omega arith
  from_few i (suc n) = go (test i) (from_few (i + 1) n)
    where
      go : (t : Bool) → length (passing_from test (i + 1) n) ≤ n → length (cond t (i ∷ passing_from test (i + 1) n) (passing_from test (i + 1) n)) ≤ suc n
      go true h = omega arith
      go false h = omega arith

  from_in : (i n x : ℕ) → In x (passing_from test i n) → (i ≤ x) × (x < i + n) × (test x ≡ true)
  unfolding passing_from
  from_in i zero x = λ k. absurd k
  from_in i (suc n) x = go (test i) refl (from_in (i + 1) n x)
    where
      wider : (i + 1 ≤ x) × (x < i + 1 + n) × (test x ≡ true) → (i ≤ x) × (x < i + suc n) × (test x ≡ true)
      wider h = let a = h.0 in let b = h.1 in (omega arith, omega arith, h.2)

      go : (t : Bool) → test i ≡ t → (In x (passing_from test (i + 1) n) → (i + 1 ≤ x) × (x < i + 1 + n) × (test x ≡ true))
          → In x (cond t (i ∷ passing_from test (i + 1) n) (passing_from test (i + 1) n)) → (i ≤ x) × (x < i + suc n) × (test x ≡ true)
      go true p k (inl e) = (omega arith, omega arith, rw e p)
      go true p k (inr h) = wider (k h)
      go false p k h = wider (k h)

  from_all : (i n x : ℕ) → i ≤ x → x < i + n → test x ≡ true → In x (passing_from test i n)
  unfolding passing_from
  from_all i zero x = λ a b e. absurd (omega arith)
  from_all i (suc n) x = λ a b e. go a b e (test i) refl (from_all (i + 1) n x)
    where
      go : i ≤ x → x < i + suc n → test x ≡ true → (t : Bool) → test i ≡ t
          → (i + 1 ≤ x → x < i + 1 + n → test x ≡ true → In x (passing_from test (i + 1) n))
          → In x (cond t (i ∷ passing_from test (i + 1) n) (passing_from test (i + 1) n))
      go a b e true p k = ⊎_elim (λ s. inl (sym s)) (λ l. inr (k (omega arith) (omega arith) e)) (eq-or-lt_of_le a)
      go a b e false p k = ⊎_elim (λ s. absurd (true≢false (sym e ∙ sym (ap test s) ∙ p))) (λ l. k (omega arith) (omega arith) e) (eq-or-lt_of_le a)

  from_above : (last i n : ℕ) → last < i → Up last (passing_from test i n)
  unfolding passing_from
  from_above last i zero = λ h. tt
  from_above last i (suc n) = λ h. go h (test i) (from_above i (i + 1) n (omega arith)) (from_above last (i + 1) n (omega arith))
    where
      go : last < i → (t : Bool) → Up i (passing_from test (i + 1) n) → Up last (passing_from test (i + 1) n)
          → Up last (cond t (i ∷ passing_from test (i + 1) n) (passing_from test (i + 1) n))
      go h true u v = (h, u)
      go h false u v = v

  from_up : (i n : ℕ) → Rises (passing_from test i n)
  unfolding passing_from
  from_up i zero = tt
  from_up i (suc n) = go (test i) (from_above i (i + 1) n (omega arith)) (from_up (i + 1) n)
    where
      go : (t : Bool) → Up i (passing_from test (i + 1) n) → Rises (passing_from test (i + 1) n)
          → Rises (cond t (i ∷ passing_from test (i + 1) n) (passing_from test (i + 1) n))
      go true u v = u
      go false u v = v

  pub chosen_none : passing test 0 ≡ []
  unfolding passing_from
  chosen_none = refl

  pub chosen_more : (n : ℕ) → passing test (n + 1) ≡ passing test n ++ cond (test n) (n ∷ []) []
  chosen_more n = ap (passing test) (add-one n) ∙ from_more 0 n ∙ rw (zero-add n)

  pub chosen_few : (n : ℕ) → length (passing test n) ≤ n
  chosen_few n = from_few 0 n

  pub chosen_in : (n x : ℕ) → In x (passing test n) → (x < n) × (test x ≡ true)
  chosen_in n x i = let h = from_in 0 n x i in let b = h.1 in (omega arith, h.2)

  pub chosen_all : (n x : ℕ) → x < n → test x ≡ true → In x (passing test n)
  chosen_all n x h e = from_all 0 n x (omega arith) (omega arith) e

  pub chosen_up : (n : ℕ) → Rises (passing test n)
  chosen_up n = from_up 0 n
