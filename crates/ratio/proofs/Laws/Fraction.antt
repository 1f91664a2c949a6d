-- Laws of `fraction_of`: it is never over 0, and a bound of the ratio stays.
-- Assumes nothing.
use Prim.Native.Nat.{ℕ, ◌*◌, ◌≤◌, ◌<◌}
use mathlib.Core.Path.{◌≡◌}
use mathlib.Core.Bool.{true, not, ◌&&◌}
use mathlib.Core.Logic.{inl, inr}
use native.Mathlib.Nat.{eq-zero-or-pos}
use native.Mathlib.Omega.{arith}
use lib.Dec.{eqb}
use borrow.Author.Tests.{eqb-false, not-true}
use Rattle.base.proofs.Laws.Tests.{by_test, cond_both, and_r}
use Rattle.base.proofs.Laws.All.{all_map}
use Rattle.ratio.specs.declared.Fraction.{Fraction}
use Rattle.ratio.specs.declared.Counts.{Counts}
use Rattle.ratio.specs.declared.EightCounts.{EightCounts}
use Rattle.ratio.specs.Fraction.{share_of, nothing, fraction_of}
use Rattle.ratio.specs.Inner.Fraction.{Small, Proper}
use Rattle.ratio.specs.Eight.{fractions_of}
use Rattle.ratio.specs.Inner.Eight.{list_counts, EachProper, EachSmall}

positive : (n : ℕ) → not (eqb n 0) ≡ true → 0 < n
positive n e = elim (eq-zero-or-pos n) [ inl z ↦ absurd (eqb-false n 0 (not-true (eqb n 0) e) z) | inr p ↦ p ]

pub fraction_proper : (c : Counts) → Small (share_of c) → Proper (fraction_of c)
unfolding fraction_of
fraction_proper c s =
    by_test Proper (c.kept && not (eqb c.denominator 0)) (share_of c) nothing
    (λ e. record { small = s; positive = positive c.denominator (and_r c.kept (not (eqb c.denominator 0)) e) })
    (λ e. record { small = record { num = omega arith; den = omega arith }; positive = omega arith })

pub fractions_proper : (c : EightCounts) → EachSmall c → EachProper (fractions_of c)
unfolding fractions_of
fractions_proper c s = all_map (λ (c : Counts). Small (share_of c)) Proper fraction_of fraction_proper (list_counts c) s

-- a bound of the ratio stays: 0 over 1 is below every other
pub fraction_bound : (most : ℕ) (c : Counts) → c.numerator ≤ most * c.denominator → (fraction_of c).num ≤ most * (fraction_of c).den
unfolding fraction_of
fraction_bound most c h =
    cond_both (λ (r : Fraction). r.num ≤ most * r.den) (c.kept && not (eqb c.denominator 0)) (share_of c) nothing h (omega arith)
