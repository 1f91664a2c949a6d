-- Laws of the measure's counts: no more letters match than either list has, and t is at most half of m. `Counted` is what `matched`
-- ensures of its two numbers, and `jaro_none` and `jaro_some` are the measure from them.
-- Assumes nothing.
use Prim.Native.Nat.{ℕ, ◌-◌, ◌*◌, ◌/◌, ◌≤◌}
use mathlib.Core.Path.{◌≡◌, refl, sym, ◌∙◌}
use mathlib.Core.Bool.{not}
use mathlib.Core.List.{List, [], ◌∷◌}
use native.Mathlib.Omega.{arith}
use lib.ListN.{length}
use lib.Dec.{eqb}
use lib.IntN.{pos}
use lib.Ieee.{Float, binary64, of_bits, of_int, round, add, div}
use borrow.Author.Tests.{eq-eqb, ne_eqb}
use Rattle.base.proofs.Laws.Numbers.{bump_small}
use Rattle.cd_jaro_meaning.specs.Jaro.{picked, differing, whole, matches, out_of_order, transpositions, over, measure, jaro}
use Rattle.cd_jaro_meaning.proofs.Laws.Matching.{picked_le, even, letters_le}
use Rattle.cd_jaro_meaning.specs.Inner.Jaro.{Counted}

differing_le : (xs ys : List ℕ) → differing xs ys ≤ length xs
unfolding differing
differing_le [] ys = omega arith
differing_le (x ∷ xs) [] = omega arith
differing_le (x ∷ xs) (y ∷ ys) =
    omega (arith, differing_le xs ys, bump_small (not (eqb x y)))

module _ (layer language : List ℕ) where
  pub matches_layer : matches layer language ≤ length layer
  unfolding matches
  matches_layer = letters_le layer language (length layer)

  pub matches_language : matches layer language ≤ length language
  unfolding matches
  matches_language = omega (arith, (even layer language (length layer)).pairs, picked_le language (whole layer language).taken)

  pub transpositions_half : transpositions layer language * 2 ≤ matches layer language
  unfolding transpositions out_of_order matches
  transpositions_half = omega (arith, differing_le (whole layer language).letters (picked language (whole layer language).taken))

pub counted : {layer language : List ℕ} {m out : ℕ} → m ≡ matches layer language → out ≡ out_of_order layer language
    → Counted layer language m (out / 2)
unfolding transpositions
counted {layer} {language} p q =
    let h : transpositions layer language ≡ out_of_order layer language / 2 = refl in
    record {
      m_is = p;
      t_is = rw q;
      few = omega (arith, matches_language layer language);
      half = omega (arith, transpositions_half layer language);
    }

-- 3.0, as the code's literal has it
abbrev THREE_BITS : ℕ
THREE_BITS = 0x4008000000000000

three : of_bits binary64 THREE_BITS ≡ of_int binary64 (pos 3)
unfolding of_bits of_int round
three = refl

pub jaro_none : {layer language : List ℕ} {m t : ℕ} → Counted layer language m t → m ≡ 0 → of_bits binary64 0 ≡ jaro layer language
unfolding jaro measure of_bits
jaro_none {layer} {language} k z = simp (eq-eqb (matches layer language) 0 (sym k.m_is ∙ z))

pub jaro_some : {layer language : List ℕ} {m t : ℕ} {x y z : Float} → Counted layer language m t → (m ≡ 0 → ⊥)
    → x ≡ over m (length layer) → y ≡ over m (length language) → z ≡ over (m - t) m
    → div binary64 (add binary64 (add binary64 x y) z) (of_bits binary64 THREE_BITS) ≡ jaro layer language
unfolding jaro measure
jaro_some {layer} {language} k n e f g =
    let z : matches layer language ≡ 0 → ⊥ = λ h. n (k.m_is ∙ h) in
    rw (three, e, f, g, k.m_is, k.t_is, ne_eqb (matches layer language) 0 z)
