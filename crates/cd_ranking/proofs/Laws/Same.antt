-- The same choice of the same test (`chosen_same`), also where the numbers past n do not pass (`chosen_fewer`); the same order of relations that agree
-- on the list (`order_same`); the same images (`map_same`).
-- Assumes nothing.
use Prim.Native.Nat.{ℕ, zero, suc, ◌+◌, ◌<◌}
use mathlib.Core.Path.{◌≡◌, refl, sym, ap, ◌∙◌}
use mathlib.Core.Logic.{inl, inr}
use mathlib.Core.Bool.{Bool, true}
use mathlib.Core.List.{List, [], ◌∷◌, map, append-nil}
use native.Mathlib.Nat.{add-zero}
use native.Mathlib.Numerals.{add-one}
use native.Mathlib.Omega.{arith}
use Rattle.base.proofs.Laws.Tests.{by_bool}
use Rattle.base.proofs.Laws.In.{In}
use Rattle.cd_order.specs.Chosen.{passing}
use Rattle.cd_order.proofs.Laws.Chosen.{chosen_none, chosen_more}
use Rattle.cd_order.specs.Sorting.{placed, in_order}
use Rattle.cd_order.proofs.Laws.Sorting.{order_in_lem}

pub chosen_same : (f g : ℕ → Bool) → ((r : ℕ) → f r ≡ g r) → (n : ℕ) → passing f n ≡ passing g n
chosen_same f g e zero = chosen_none f ∙ sym (chosen_none g)
chosen_same f g e (suc n) =
    ap (passing f) (sym (add-one n)) ∙ chosen_more f n
    ∙ rw (chosen_same f g e n, e n) (sym (chosen_more g n)) ∙ ap (passing g) (add-one n)

pub chosen_fewer : (f : ℕ → Bool) (n : ℕ) → ((r : ℕ) → f r ≡ true → r < n) → (k : ℕ) → passing f (n + k) ≡ passing f n
chosen_fewer f n h zero = rw (add-zero n)
chosen_fewer f n h (suc k) =
    let e : n + suc k ≡ n + k + 1 = omega arith in
    by_bool (f (n + k))
    (λ p. absurd (past (h (n + k) p)))
    (λ p. ap (passing f) e ∙ chosen_more f (n + k) ∙ rw p (append-nil (passing f (n + k)) ∙ chosen_fewer f n h k))
  where
    past : n + k < n → ⊥
    past l = omega arith

placed_same : (b c : ℕ → ℕ → Bool) (x : ℕ) (r : List ℕ) → ((y : ℕ) → In y r → b x y ≡ c x y) → placed b x r ≡ placed c x r
unfolding placed
placed_same b c x [] e = refl
placed_same b c x (y ∷ r) e = rw (e y (inl refl), placed_same b c x r (λ z i. e z (inr i)))

pub order_same : (b c : ℕ → ℕ → Bool) (l : List ℕ) → ((x y : ℕ) → In x l → In y l → b x y ≡ c x y) → in_order b l ≡ in_order c l
unfolding in_order
order_same b c [] e = refl
order_same b c (x ∷ l) e =
    placed_same b c x (in_order b l) (λ y i. e x y (inl refl) (inr (order_in_lem b l y i)))
    ∙ ap (placed c x) (order_same b c l (λ y z i j. e y z (inr i) (inr j)))

pub map_same : {A : Type 0} (f g : ℕ → A) (l : List ℕ) → ((x : ℕ) → In x l → f x ≡ g x) → map f l ≡ map g l
map_same f g [] e = refl
map_same f g (x ∷ l) e = rw (e x (inl refl), map_same f g l (λ y i. e y (inr i)))
