-- Demand 3, proved of every eight fractions within their bounds and not over 0, for every finite f32 as the threshold, negative ones too:
-- `near`, `reached` and `missed` are its three inequalities, `sum_plain` says that the score is finite and has no minus sign, and `below`
-- that a score is below the threshold exactly where it does not reach it.
-- Assumes nothing.
use Prim.Native.Nat.{ℕ, zero, suc, ◌+◌, ◌-◌, ◌*◌, ◌≤◌, ◌<◌}
use mathlib.Core.Path.{◌≡◌, refl, sym, ap, ◌∙◌, subst}
use mathlib.Core.Bool.{Bool, true, false, not, cond, true≢false}
use native.Mathlib.Nat.{mul-le-mul_right, mul-lt-mul_of_pos_right, le_of_mul-le-mul_right, lt_of_mul-lt-mul_right}
use native.Mathlib.Omega.{arith}
use borrow.Author.Tests.{leb-true, leb-false}
use lib.Dec.{T, leb, ltb, le→leb, lt→ltb, ltb→lt, nltb→le}
use lib.IntN.{ℤ, pos, negsuc, neg_ℤ, nat_abs, ◌*ℤ◌, ◌-ℤ◌}
use lib.Signed.{◌≤ℤ◌, ◌<ℤ◌, le_z}
use lib.Pow.{pow_pos}
use lib.Ieee.{Float, nan, inf, fin, binary32, fits, le, lt}
use lib.Ieee.Exact.{HasValue}
use Rattle.ratio.specs.Eight.{Fractions, ratios, sum}
use Rattle.ratio.specs.Inner.Eight.{EachProper}
use Rattle.ratio_demand.specs.Demand.{denominators, exact, Near, Reached, Missed}
use Rattle.ratio.specs.Parts.{ONE, signed}
use Rattle.ratio.specs.Finite.{is_finite, Finite}
use Rattle.ratio.specs.Inner.Finite.{Plain}
use Rattle.ratio.proofs.Laws.Finite.{plain_of}
use Rattle.ratio.proofs.Laws.Parts.{parts_is, Whole, parts_whole}
use Rattle.ratio.proofs.Laws.Once.{U}
use Rattle.ratio_demand.proofs.Laws.Apart.{OFF, Off}
use Rattle.ratio.proofs.Laws.Comparing.{le_is, lt_not_le}
use Rattle.ratio_demand.proofs.Laws.Summing.{Sum, sum_off}

holds : (b : Bool) → b ≡ true → T b
holds b e = subst (λ (z : Bool). T z) (sym e) tt

pub sum_plain : (f : Fractions) → EachProper f → Plain (sum (ratios f))
sum_plain f c = let h = sum_off f c in plain_of (sum (ratios f)) h.size h.value

-- ---- the distance
gap : (a b c : ℕ) → U * a ≤ U * b + c → U * b ≤ U * a + c → U * nat_abs (pos a -ℤ pos b) ≤ c
gap a zero c h k = omega arith
gap a (suc b) c h k = go (ltb a (suc b)) (ltb→lt a (suc b)) (nltb→le a (suc b))
  where
    go : (t : Bool) → (T t → a < suc b) → (T (not t) → suc b ≤ a) → U * nat_abs (cond t (negsuc (suc b - suc a)) (pos (a - suc b))) ≤ c
    go true x y = let z = x tt in omega arith
    go false x y = let z = y tt in omega arith

pub near : (f : Fractions) → EachProper f → Near (sum (ratios f)) f
near f c =
    let h = sum_off f c in
    subst (λ (z : ℤ). U * nat_abs (z *ℤ pos (denominators f) -ℤ pos (exact f)) ≤ OFF * exact f) (sym (parts_is (sum (ratios f)) false h.size h.value))
    (gap (h.size * denominators f) (exact f) (OFF * exact f) h.off.0 h.off.1)

-- ---- the threshold: the score is w parts, and the threshold u, over the denominators D
reach : (w u D e : ℕ) → Off (w * D) e → u ≤ w → U * (u * D) ≤ (U + OFF) * e
reach w u D e n h = omega (arith, mul-le-mul_right D h)

miss : (w u D e : ℕ) → Off (w * D) e → 0 < D → w < u → (U - OFF) * e < U * (u * D)
miss w u D e n P h = omega (arith, mul-lt-mul_of_pos_right h P)

-- what has a minus sign, multiplied out, is at most what has none
minus_le : (n c : ℕ) → T (le_z (neg_ℤ (pos n)) (pos c))
minus_le zero c = le→leb 0 c (omega arith)
minus_le (suc n) c = tt

minus_twice : (n c : ℕ) → T (le_z (pos U *ℤ neg_ℤ (pos n)) (pos c))
minus_twice zero c = le→leb 0 c (omega arith)
minus_twice (suc n) c = minus_le (U * suc n) c

minus_times : (u D c : ℕ) → (pos U *ℤ (neg_ℤ (pos u) *ℤ pos D)) ≤ℤ pos c
minus_times zero D c = record { le = le→leb (U * (0 * D)) c (omega arith) }
minus_times (suc u) D c = record { le = minus_twice (suc u * D) c }

-- nothing without a minus sign is below what has one
not_below : (x y : Float) (a b c : ℕ) → HasValue x false a c → HasValue y true b c → lt x y ≡ false
unfolding lt
not_below nan y a b c h k = absurd h
not_below (inf s) y a b c h k = absurd h
not_below (fin true m e) y a b c h k = absurd (true≢false h.0)
not_below (fin false m e) nan a b c h k = absurd k
not_below (fin false m e) (inf s) a b c h k = absurd k
not_below (fin false m e) (fin true n d) a b c h k = refl
not_below (fin false m e) (fin false n d) a b c h k = absurd (true≢false (sym k.0))

module _ (s t : Float) (f : Fractions) (h : Sum s f) (u : ℕ) where
  order : HasValue t false u ONE → le t s ≡ leb (u * ONE) (h.size * ONE)
  order v = le_is u ONE h.size ONE (pow_pos 149) (pow_pos 149) t s v h.value

  reached_at : (g : Bool) → HasValue t g u ONE → le t s ≡ true → (pos U *ℤ (signed g u *ℤ pos (denominators f))) ≤ℤ pos ((U + OFF) * exact f)
  reached_at false v e =
      record {
        le =
            le→leb (U * (u * denominators f)) ((U + OFF) * exact f)
            (reach h.size u (denominators f) (exact f) h.off
            (le_of_mul-le-mul_right (leb-true (u * ONE) (h.size * ONE) (sym (order v) ∙ e)) (pow_pos 149)));
      }
  reached_at true v e = minus_times u (denominators f) ((U + OFF) * exact f)

  missed_at : (g : Bool) → HasValue t g u ONE → le t s ≡ false → lt s t ≡ true → pos ((U - OFF) * exact f) <ℤ (pos U *ℤ (signed g u *ℤ pos (denominators f)))
  missed_at false v e l =
      record {
        lt =
            lt→ltb ((U - OFF) * exact f) (U * (u * denominators f))
            (miss h.size u (denominators f) (exact f) h.off h.positive
            (lt_of_mul-lt-mul_right ONE (leb-false (u * ONE) (h.size * ONE) (sym (order v) ∙ e))));
      }
  missed_at true v e l = absurd (true≢false (sym l ∙ not_below s t h.size u ONE h.value v))

module _ (f : Fractions) (c : EachProper f) (t : Float) (F : Finite t) where
  whole : Whole t
  whole = parts_whole t (holds (is_finite t) F.is_finite_holds) (holds (fits binary32 t) F.is_f32)

  pub below : lt (sum (ratios f)) t ≡ not (le t (sum (ratios f)))
  below = lt_not_le (sum (ratios f)) t (sum_plain f c).is_finite_holds F.is_finite_holds

  pub reached : le t (sum (ratios f)) ≡ true → Reached t f
  reached e =
      subst (λ (z : ℤ). (pos U *ℤ (z *ℤ pos (denominators f))) ≤ℤ pos ((U + OFF) * exact f)) (sym (parts_is t whole.sign whole.size whole.value))
      (reached_at (sum (ratios f)) t f (sum_off f c) whole.size whole.sign whole.value e)

  pub missed : le t (sum (ratios f)) ≡ false → Missed t f
  missed e =
      subst (λ (z : ℤ). pos ((U - OFF) * exact f) <ℤ (pos U *ℤ (z *ℤ pos (denominators f)))) (sym (parts_is t whole.sign whole.size whole.value))
      (missed_at (sum (ratios f)) t f (sum_off f c) whole.size whole.sign whole.value e (below ∙ ap not e))
