-- A walk of the layers' keys: what `own` and `layer_for` look for.
-- Assumes nothing.
use Prim.Native.Nat.{ℕ, ◌+◌, ◌≤◌, ◌<◌}
use mathlib.Core.Path.{◌≡◌, sym, ◌∙◌}
use mathlib.Core.Bool.{Bool, true, false}
use mathlib.Core.List.{List, [], ◌∷◌, ◌++◌}
use native.Mathlib.Omega.{arith}
use lib.ListN.{length, get_or, length-append, get_or-append, get_or-eq_default}
use lib.Seq.{get_or-append_seam}
use borrow.Author.Tests.{lt-ltb, le-ltb, ne_eqb, eq-eqb}
use Rattle.base.specs.Inner.First.{first_from}
use Rattle.base.proofs.Laws.First.{first_start, first_hit, first_miss, first_end}
use Rattle.base.specs.Limits.{LAST_RANGE}
use Rattle.base.proofs.Laws.Tests.{split}
use Rattle.classes.specs.Pairs.{suspicious}
use Rattle.cd_layers.specs.Layers.{accepts, is_own}
use Rattle.cd_layers.specs.Inner.Numbers.{oldest, layer_for, Below}

module _ (test : ℕ → Bool) (keys : List ℕ) where
  -- none of the first j keys passes the test
  pub record Looking (j : ℕ) : Type 0 where
    pub below : j ≤ length keys
    pub rest : first_from (λ k. test (get_or keys k 0)) (length keys) j ≡ oldest test keys

  pub look_start : Looking 0
  unfolding oldest
  look_start = record { below = omega arith; rest = first_start (λ k. test (get_or keys k 0)) (length keys) }

  module _ {j : ℕ} (g : Looking j) where
    pub look_on : j < length keys → test (get_or keys j 0) ≡ false → Looking (j + 1)
    look_on h e =
        record { below = omega arith; rest = sym (first_miss (λ k. test (get_or keys k 0)) (length keys) j h e) ∙ g.rest }

    pub look_hit : j < length keys → test (get_or keys j 0) ≡ true → oldest test keys ≡ j
    look_hit h e = sym g.rest ∙ first_hit (λ k. test (get_or keys k 0)) (length keys) j h e

    pub look_end : length keys ≤ j → oldest test keys ≡ j
    look_end h = sym g.rest ∙ first_end (λ k. test (get_or keys k 0)) (length keys) j (omega (arith, g.below))

    pub look_all : length keys ≤ j → length keys ≡ oldest test keys
    look_all h = omega (arith, look_end h, g.below)

-- what the pair table's bit says of a key
pub accepts_not : (pairs : List ℕ) (a b : ℕ) (s : Bool) → s ≡ suspicious pairs a b → s ≡ true → accepts pairs b a ≡ false
unfolding accepts
accepts_not pairs a b s e t = rw (← e, t)

pub accepts_so : (pairs : List ℕ) (a b : ℕ) (s : Bool) → s ≡ suspicious pairs a b → s ≡ false → accepts pairs b a ≡ true
unfolding accepts
accepts_so pairs a b s e t = rw (← e, t)

pub own_not : (a b : ℕ) → (a ≡ b → ⊥) → is_own b a ≡ false
unfolding is_own
own_not a b h = ne_eqb a b h

pub own_so : (a b : ℕ) → a ≡ b → is_own b a ≡ true
unfolding is_own
own_so a b h = eq-eqb a b h

module _ (pairs keys : List ℕ) (b : ℕ) where
  -- a key accepts the range, and none before it does
  pub layer_joins : {j : ℕ} → Looking (accepts pairs b) keys j → j < length keys → accepts pairs b (get_or keys j 0) ≡ true
      → j ≡ layer_for pairs keys b
  unfolding layer_for
  layer_joins {j} g l t =
      let e : oldest (accepts pairs b) keys ≡ j = look_hit (accepts pairs b) keys g l t in
      simp (e, lt-ltb j (length keys) l)

  -- no key accepts it
  pub layer_own : {j : ℕ} (r : ℕ) → Looking (accepts pairs b) keys j → length keys ≤ j → r ≡ oldest (is_own b) keys
      → r ≡ layer_for pairs keys b
  unfolding layer_for
  layer_own {j} r g h e =
      let l : length keys ≤ oldest (accepts pairs b) keys = omega (arith, look_end (accepts pairs b) keys g h) in
      e ∙ simp (le-ltb (oldest (accepts pairs b) keys) (length keys) l)

pub below_more : (l : List ℕ) (b : ℕ) → Below l → b ≤ LAST_RANGE → Below (l ++ (b ∷ []))
below_more l b s h j =
    split j (length l) (λ k. rw (get_or-append l (b ∷ []) 0 j k) (s j))
    (λ k. split (length l) j (λ m. rw (get_or-eq_default (l ++ (b ∷ [])) 0 {n = j} (omega (arith, length-append l (b ∷ [])))) (omega arith))
    (λ m. let e : j ≡ length l = omega arith in rw (e, get_or-append_seam l b [] 0) h))
