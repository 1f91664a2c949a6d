-- Eight fractions, each rounded once, and added in order, each sum rounded once: after k fractions the float is their exact sum, but for
-- k roundings (`At`, by `at_first`, `at_next` and, over a list, `at_list`). So the sum of the eight is off by OFF = 9 parts in 2 ^ 24 of the
-- exact sum at most (`sum_off`). Their number is DETECTORS throughout.
-- Assumes nothing.
use Prim.Native.Nat.{ℕ, suc, ◌+◌, ◌*◌, ◌^◌, ◌≤◌, ◌<◌}
use mathlib.Core.Path.{◌≡◌, refl, sym, ◌∙◌, subst}
use mathlib.Core.Bool.{false}
use mathlib.Core.List.{List, [], ◌∷◌}
use native.Mathlib.Nat.{lt_of_le_of_lt, mul-le-mul_right, mul-le-mul_left, le_of_mul-le-mul_right, mul-pos, add-zero, add-suc, suc-add, add-mul, mul_assoc, mul_comm, mul_left_comm}
use native.Mathlib.Omega.{arith}
use lib.Dec.{lit<, lit≤}
use lib.ListN.{length, drop}
use lib.Pow.{pow_pos}
use lib.Ieee.{Float, binary32}
use lib.Ieee.Exact.{HasValue}
use lib.Ieee.Scale.{grid, round_val}
use Rattle.base.specs.Inner.All.{All}
use Rattle.ratio.specs.declared.Fraction.{Fraction}
use Rattle.ratio.specs.Eight.{DETECTORS, Fractions, ratios, sum}
use Rattle.ratio.specs.Inner.Eight.{list_fractions, EachProper}
use Rattle.ratio.specs.Inner.Fraction.{MOST_NUM, Proper}
use Rattle.ratio.specs.Rounded.{rounded, ◌⊕◌}
use Rattle.ratio_demand.specs.Demand.{denominators, numerators, exact}
use Rattle.ratio.specs.Parts.{ONE}
use Rattle.ratio.proofs.Laws.Once.{Once, once_scale}
use Rattle.ratio_demand.proofs.Laws.Apart.{Apart, apart_once, apart_more, apart_scale, apart_add, apart_round, apart_twice, Off, apart_off}
use Rattle.ratio.proofs.Laws.Grid.{grid_whole}
use Rattle.ratio.proofs.Laws.Operations.{add_at}
use Rattle.ratio.proofs.Laws.Rounded.{parts_of, rounded_once, rounded_value}

-- ---- numbers. One is l parts. w parts are N / D after k roundings, and N / D is at most k times the largest fraction.
abbrev Rounds : ℕ → ℕ → ℕ → ℕ → ℕ → Type 0
Rounds l k w N D = (0 < D) × (N ≤ k * (MOST_NUM * D)) × Apart k (w * D) (N * l)

rounds_few : (l k w N D : ℕ) → k ≤ DETECTORS → Rounds l k w N D → w ≤ 2 * DETECTORS * MOST_NUM * l
rounds_few l k w N D K r =
    let t = apart_twice k (w * D) (N * l) K r.2 in
    le_of_mul-le-mul_right {k = D} (omega (arith, mul-le-mul_right l r.1, mul-le-mul_right (D * l) K)) r.0

-- a fraction, rounded once
rounds_first : (l r p q : ℕ) → p ≤ MOST_NUM → 0 < q → Once (r * q) (p * l) → Rounds l 1 r p q
rounds_first l r p q P Q o = (Q, omega (arith, mul-le-mul_left MOST_NUM Q), apart_once (r * q) (p * l) o)

module _ (l k w N D r p q w' : ℕ) (I : 1 ≤ k) (K : k < DETECTORS) (P : p ≤ MOST_NUM) (Q : 0 < q) (o : Once (r * q) (p * l)) (s : Once w' (w + r)) (h : Rounds l k w N D) where
  more : N * q + D * p ≤ suc k * (MOST_NUM * (D * q))
  more = omega (arith, mul-le-mul_right q h.1, mul-le-mul_right D P, mul-le-mul_left D Q)

  both : Apart k (w * D * q + r * q * D) (N * l * q + p * l * D)
  both =
      apart_add k (w * D * q) (N * l * q) (r * q * D) (p * l * D) (apart_scale k (w * D) (N * l) q h.2)
      (apart_scale k (r * q) (p * l) D (apart_more 1 k (r * q) (p * l) I (apart_once (r * q) (p * l) o)))

  regroup : Apart k (w * D * q + r * q * D) (N * l * q + p * l * D) → Apart k ((w + r) * (D * q)) ((N * q + D * p) * l)
  regroup a =
      let x : w * D * q + r * q * D ≡ (w + r) * (D * q) = simp (add-mul, mul_assoc, mul_comm, mul_left_comm) in
      let y : N * l * q + p * l * D ≡ (N * q + D * p) * l = simp (add-mul, mul_assoc, mul_comm, mul_left_comm) in
      subst (λ (v : ℕ). Apart k v ((N * q + D * p) * l)) x (subst (λ (e : ℕ). Apart k (w * D * q + r * q * D) e) y a)

  rounds_next : Rounds l (suc k) w' (N * q + D * p) (D * q)
  rounds_next = (
    mul-pos h.0 Q,
    more,
    apart_round k ((w + r) * (D * q)) ((N * q + D * p) * l) (w' * (D * q)) K (regroup both) (once_scale w' (w + r) (D * q) s),
  )

-- ---- floats. s has no minus sign, and is the fraction e after k roundings.
record At (k : ℕ) (s : Float) (e : Fraction) : Type 0 where
  parts : ℕ
  value : HasValue s false parts ONE
  rounds : Rounds ONE k parts e.num e.den

infixl 60 ◌plus◌
-- the exact sum of two fractions
abbrev ◌plus◌ : Fraction → Fraction → Fraction
e plus f = record { num = e.num * f.den + e.den * f.num; den = e.den * f.den }

at_first : {f : Fraction} → Proper f → At 1 (rounded f) f
at_first {f} c =
    record { parts = parts_of f; value = rounded_value f c; rounds = rounds_first ONE (parts_of f) f.num f.den c.small.num c.positive (rounded_once f c) }

under : (w : ℕ) → w ≤ 2 * DETECTORS * MOST_NUM * ONE → w < 2 ^ (149 + 128)
under w h = lt_of_le_of_lt h (lit< tt)

at_next : {k : ℕ} {s : Float} {e f : Fraction} → 1 ≤ k → k < DETECTORS → At k s e → Proper f → At (suc k) (s ⊕ rounded f) (e plus f)
at_next {k} {s} {e} {f} I K a c =
    let w = a.parts in
    let r = parts_of f in
    let w' = grid binary32 (w + r) ONE in
    let h = rounds_next ONE k w e.num e.den r f.num f.den w' I K c.small.num c.positive (rounded_once f c) (grid_whole (w + r)) a.rounds in
    record {
      parts = w';
      value = subst (λ (z : Float). HasValue z false w' ONE) (sym (add_at binary32 w r ONE (pow_pos 149) s (rounded f) a.value (rounded_value f c)))
          (round_val binary32 (w + r) ONE (under w' (rounds_few ONE (suc k) w' (e plus f).num (e plus f).den (up_one k K) h)));
      rounds = h;
    }
  where
    up_one : (k : ℕ) → k < DETECTORS → suc k ≤ DETECTORS
    up_one k h = omega arith

-- ---- a list of fractions behind the first
abbrev added : Float → List Fraction → Float
added s [] = s
added s (f ∷ l) = added (s ⊕ rounded f) l

abbrev summed : Fraction → List Fraction → Fraction
summed e [] = e
summed e (f ∷ l) = summed (e plus f) l

at_list : (k : ℕ) (s : Float) (e : Fraction) (l : List Fraction) → 1 ≤ k → k + length l ≤ DETECTORS → At k s e → All Proper l
    → At (k + length l) (added s l) (summed e l)
at_list k s e [] I K a h = subst (λ (n : ℕ). At n s e) (sym (add-zero k)) a
at_list k s e (f ∷ l) I K a h =
    subst (λ (n : ℕ). At n (added (s ⊕ rounded f) l) (summed (e plus f) l)) (suc-add k (length l) ∙ sym (add-suc k (length l)))
    (at_list (suc k) (s ⊕ rounded f) (e plus f) l (omega arith) (omega arith) (at_next I (omega arith) a h.0) h.1)

-- ---- the eight
abbrev rest : Fractions → List Fraction
rest f = drop 1 (list_fractions f)

abbrev total : Fractions → Fraction
total f = summed f.symbols (rest f)

at_eight : (f : Fractions) → EachProper f → At DETECTORS (sum (ratios f)) (total f)
unfolding sum ratios
at_eight f c = at_list 1 (rounded f.symbols) f.symbols (rest f) (lit≤ tt) (lit≤ tt) (at_first c.0) c.1

-- the exact sum is the one that Demand writes out: its factors stand in the same order, so that only the sums are multiplied out
total_den : (f : Fractions) → (total f).den ≡ denominators f
unfolding denominators
total_den f = refl

total_num : (f : Fractions) → (total f).num ≡ numerators f
unfolding numerators
total_num f = simp add-mul

pub record Sum (s : Float) (f : Fractions) : Type 0 where
  pub size : ℕ
  pub value : HasValue s false size ONE
  pub positive : 0 < denominators f
  pub off : Off (size * denominators f) (exact f)

pub sum_off : (f : Fractions) → EachProper f → Sum (sum (ratios f)) f
sum_off f c =
    let a = at_eight f c in
    record {
      size = a.parts;
      value = a.value;
      positive = subst (λ (d : ℕ). 0 < d) (total_den f) a.rounds.0;
      off = subst (λ (d : ℕ). Off (a.parts * d) (exact f)) (total_den f)
          (subst (λ (n : ℕ). Off (a.parts * (total f).den) (n * ONE)) (total_num f) (apart_off (a.parts * (total f).den) ((total f).num * ONE) a.rounds.2));
    }
