-- The search for the first free equal letter in the window, as `place` walks it: below the window, at another letter and at a taken one
-- nothing serves, and past the window neither.
-- Assumes nothing.
use Prim.Native.Nat.{ℕ, ◌+◌, ◌-◌, ◌/◌, ◌≤◌, ◌<◌}
use mathlib.Core.Path.{◌≡◌, refl, sym, ◌∙◌}
use mathlib.Core.Bool.{Bool, true, false, not, and-false}
use mathlib.Core.List.{List}
use native.Mathlib.Omega.{arith}
use lib.ListN.{length, get_or, take, drop}
use lib.Dec.{ltb}
use borrow.Author.Tests.{ne_eqb, eq-eqb, ltb-true, ltb-false}
use Rattle.base.specs.Tests.{within}
use Rattle.base.proofs.Laws.Tests.{within_below, within_above, within_yes, by_test, cond_both, split}
use Rattle.base.proofs.Laws.First.{first_is, first_none}
use Rattle.base.specs.Among.{among}
use Rattle.base.proofs.Laws.In.{among_none}
use Rattle.cd_jaro_meaning.specs.Jaro.{window, serves, place}
use Rattle.cd_jaro.specs.Inner.Place.{least}

least_right : (a b : ℕ) → least a b ≤ b
least_right a b = by_test (λ (m : ℕ). m ≤ b) (ltb a b) a b (λ e. omega (arith, ltb-true a b e)) (λ e. omega arith)

least_left : (a b : ℕ) → least a b ≤ a
least_left a b = by_test (λ (m : ℕ). m ≤ a) (ltb a b) a b (λ e. omega arith) (λ e. omega (arith, ltb-false a b e))

-- what is not below the smaller one, and below b, is not below a
least_past : (a b k : ℕ) → least a b ≤ k → k < b → a ≤ k
least_past a b k = by_test (λ (m : ℕ). m ≤ k → k < b → a ≤ k) (ltb a b) a b (λ e h g. h) (λ e h g. absurd (no h g))
  where
    no : b ≤ k → k < b → ⊥
    no h g = omega arith

module _ (language : List ℕ) (taken : List Bool) (x i w : ℕ) where
  -- the walk stands at j: it began with the window, and nothing before j serves
  pub record Seeking (j : ℕ) : Type 0 where
    pub from : i - w ≤ j
    pub none : (k : ℕ) → k < j → serves language taken x i w k ≡ false

  pub seeking_start : {j : ℕ} → j ≡ i - w → Seeking j
  unfolding serves
  seeking_start {j} e =
      record {
        from = omega arith;
        none = λ k h. let b : within (i - w) (i + w) k ≡ false = within_below (i - w) (i + w) k (omega arith) in rw b;
      }

  other : (j : ℕ) → (get_or language j 0 ≡ x → ⊥) → serves language taken x i w j ≡ false
  unfolding serves
  other j n = rw (ne_eqb x (get_or language j 0) (λ e. n (sym e)), and-false (not (get_or taken j false)), and-false (within (i - w) (i + w) j))

  miss : (j : ℕ) → Seeking j → serves language taken x i w j ≡ false → Seeking (j + 1)
  miss j s e =
      record {
        from = omega (arith, s.from);
        none = λ k h. split k j (s.none k) (λ g. let z : k ≡ j = omega arith in rw z e);
      }

  pub seeking_other : {j : ℕ} → Seeking j → (get_or language j 0 ≡ x → ⊥) → Seeking (j + 1)
  seeking_other {j} s n = miss j s (other j n)

  pub seeking_taken : {j : ℕ} → Seeking j → get_or taken j false ≡ true → Seeking (j + 1)
  unfolding serves
  seeking_taken {j} s e = miss j s (rw (e, and-false (within (i - w) (i + w) j)))

  pub seeking_found : {j e : ℕ} → Seeking j → e ≡ least (i + w + 1) (length language) → j < e → get_or language j 0 ≡ x → get_or taken j false ≡ false
      → j ≡ place language taken x i w
  unfolding place serves
  seeking_found {j} {e} s q h p f =
      let b : within (i - w) (i + w) j ≡ true = within_yes (i - w) (i + w) j s.from (omega (arith, least_left (i + w + 1) (length language))) in
      sym (first_is _ _ j (omega (arith, least_right (i + w + 1) (length language))) (rw (b, f, p, eq-eqb x x refl)) s.none)

  pub seeking_end : {j e : ℕ} → Seeking j → e ≡ least (i + w + 1) (length language) → e ≤ j → length language ≡ place language taken x i w
  unfolding place serves
  seeking_end {j} {e} s q h =
      sym (first_none _ _ (λ k g. split k j (s.none k) (λ m. past k (least_past (i + w + 1) (length language) k (omega arith) g))))
    where
      past : (k : ℕ) → i + w + 1 ≤ k → serves language taken x i w k ≡ false
      past k g = let b : within (i - w) (i + w) k ≡ false = within_above (i - w) (i + w) k (omega arith) (omega arith) in rw b

  -- where x is not among the letters of the window, there is none
  pub seeking_absent : {j e : ℕ} {held : Bool} → j ≡ i - w → e ≡ least (i + w + 1) (length language)
      → held ≡ among x (take (e - j) (drop j language)) → not held ≡ true
      → length language ≡ place language taken x i w
  seeking_absent {j} {e} {held} p q a n =
      let s : Seeking j = seeking_start p in
      let r : e ≤ length language = omega (arith, least_right (i + w + 1) (length language)) in
      seeking_end {j = j + (e - j)}
      (record {
        from = omega (arith, s.from);
        none = λ k g. split k j (s.none k) (λ m. other k (among_none x language j e r (sym a ∙ no held n) k m (omega arith)));
      })
      q
      (omega arith)
    where
      no : (b : Bool) → not b ≡ true → b ≡ false
      no true z = sym z
      no false z = refl

pub window_le : (a b : ℕ) → window a b ≤ (a + b) / 2
unfolding window
window_le a b = cond_both (λ (m : ℕ). m / 2 - 1 ≤ (a + b) / 2) (ltb a b) b a (omega arith) (omega arith)
