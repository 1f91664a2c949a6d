-- `nearest`, the kit's word for the number above or below, by how the remainder compares with a half.
-- Assumes nothing.
use Prim.Native.Nat.{ℕ, ◌+◌, ◌*◌, ◌%◌, ◌≤◌, ◌<◌, compare, Ordering}
use mathlib.Core.Path.{◌≡◌, refl, subst}
use mathlib.Core.Bool.{not}
use native.Mathlib.Omega.{arith}
use lib.Arith.{lt_of_le-ne}
use lib.Dec.{T, is_le, compare_is_eq, eqb, leb→le, nleb→lt, eqb→eq, eqb_refl}
use lib.Ieee.{nearest}
use Rattle.f32_nearest.specs.Inner.Fields.{DROPPED}
use Rattle.f32_nearest.proofs.Laws.Fields.{HALF}

-- what `compare` says (private in the kit's Nearest)
abbrev Cmp : Ordering → ℕ → ℕ → Type 0
Cmp Ordering.lt a b = a < b
Cmp Ordering.eq a b = a ≡ b
Cmp Ordering.gt a b = b < a

cmp : (a b : ℕ) → Cmp (compare a b) a b
cmp a b = go (compare a b) (leb→le a b) (nleb→lt a b) (eqb→eq a b) (λ (e : a ≡ b). subst (λ (x : ℕ). T (eqb a x)) e (eqb_refl a))
  where
    go : (o : Ordering) → (T (is_le o) → a ≤ b) → (T (not (is_le o)) → b < a) → (T (compare_is_eq o) → a ≡ b) → (a ≡ b → T (compare_is_eq o)) → Cmp o a b
    go Ordering.lt h k e n = lt_of_le-ne (h tt) n
    go Ordering.eq h k e n = e tt
    go Ordering.gt h k e n = k tt

module _ (q r : ℕ) where
  pub half_less : r < HALF → q ≡ nearest q (compare (r * 2) DROPPED)
  half_less h = go (compare (r * 2) DROPPED) (cmp (r * 2) DROPPED)
    where
      go : (o : Ordering) → Cmp o (r * 2) DROPPED → q ≡ nearest q o
      go Ordering.lt c = refl
      go Ordering.eq c = absurd (omega arith)
      go Ordering.gt c = absurd (omega arith)

  pub half_more : HALF < r → q + 1 ≡ nearest q (compare (r * 2) DROPPED)
  half_more h = go (compare (r * 2) DROPPED) (cmp (r * 2) DROPPED)
    where
      go : (o : Ordering) → Cmp o (r * 2) DROPPED → q + 1 ≡ nearest q o
      go Ordering.lt c = absurd (omega arith)
      go Ordering.eq c = absurd (omega arith)
      go Ordering.gt c = omega arith

  tie : r ≡ HALF → q + q % 2 ≡ nearest q (compare (r * 2) DROPPED)
  tie h = go (compare (r * 2) DROPPED) (cmp (r * 2) DROPPED)
    where
      go : (o : Ordering) → Cmp o (r * 2) DROPPED → q + q % 2 ≡ nearest q o
      go Ordering.lt c = absurd (omega arith)
      go Ordering.eq c = refl
      go Ordering.gt c = absurd (omega arith)

  pub half_even : HALF ≤ r → r ≤ HALF → q % 2 ≡ 0 → q ≡ nearest q (compare (r * 2) DROPPED)
  half_even l h z = omega (arith, tie (omega arith))

  pub half_odd : HALF ≤ r → r ≤ HALF → (q % 2 ≡ 0 → ⊥) → q + 1 ≡ nearest q (compare (r * 2) DROPPED)
  half_odd l h z = omega (arith, tie (omega arith))
