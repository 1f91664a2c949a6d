-- cd.rs compares the f32 of each share with f32 0.2, and sorts by the f32; here the fractions are compared in whole numbers. Of the shares of
-- alphabets, which have at most 256 letters, the two are one: `candidate_alike` for the test, `before_alike` for the order ("falling ratio, ties in
-- table order"). So no answer rests on which of the two is taken.
-- Assumes nothing.
use Prim.Native.Nat.{ℕ, ◌*◌, ◌^◌, ◌≤◌, ◌<◌}
use mathlib.Core.Path.{◌≡◌}
use mathlib.Core.Bool.{Bool, not, ◌&&◌, ◌||◌}
use native.Mathlib.Nat.{mul-le-mul}
use native.Mathlib.Omega.{arith}
use lib.Dec.{ltb, eqb}
use lib.Ieee.{le, lt}
use borrow.Author.Tests.{ltb-true, ltb-false, eq-eqb, ne_eqb}
use Rattle.base.specs.Limits.{LANGUAGE_LETTERS}
use Rattle.base.proofs.Laws.Tests.{by_bool}
use Rattle.ratio.specs.declared.Fraction.{Fraction}
use Rattle.ratio.specs.Inner.Fraction.{Proper}
use Rattle.ratio.specs.Rounded.{rounded}
use Rattle.ratio.proofs.Laws.CutOff.{above_alike, one_fifth_alike}
use Rattle.ratio.proofs.Laws.CutOffs.{one_fifth}
use Rattle.cd_alphabet.specs.Alphabet.{is_candidate}
use Rattle.cd_alphabet.specs.Candidates.{share_before}
use Rattle.cd_alphabet.specs.Inner.Key.{Share}

-- as cd.rs has it: the share f of the record i comes before the share g of the record j by their f32, and of equal ones by the table's order
unfoldable pub rounded_before : Fraction → ℕ → Fraction → ℕ → Bool
rounded_before f i g j = lt (rounded g) (rounded f) || (not (lt (rounded f) (rounded g)) && ltb i j)

share_proper : (f : Fraction) → Share f → Proper f
share_proper f F = record { small = record { num = omega arith; den = omega arith }; positive = F.some }

-- `ratio >= 0.2`
pub candidate_alike : (f : Fraction) → Share f → le one_fifth.literal (rounded f) ≡ is_candidate f
unfolding is_candidate
candidate_alike f F = one_fifth_alike.at_least_holds f (share_proper f F)

near : (f g : Fraction) → Share f → Share g → f.num * g.den < 2 ^ 23
near f g F G = step _ _ (mul-le-mul (few f F) G.few)
  where
    few : (h : Fraction) → Share h → h.num ≤ LANGUAGE_LETTERS
    few h H = omega (arith, H.most, H.few)

    step : (a b : ℕ) → a * b ≤ LANGUAGE_LETTERS * LANGUAGE_LETTERS → a * b < 2 ^ 23
    step a b h = omega arith

-- the order of the fractions, written either way
tie : (a b : ℕ) (t : Bool) → ltb b a || (not (ltb a b) && t) ≡ ltb b a || (eqb a b && t)
tie a b t =
    by_bool (ltb b a) (λ e. rw e)
    (λ e. by_bool (ltb a b)
    (λ l. rw (e, l, ne_eqb a b (λ (z : a ≡ b). apart a b (ltb-true a b l) z)))
    (λ l. rw (e, l, eq-eqb a b (same a b (ltb-false b a e) (ltb-false a b l)))))
  where
    apart : (a b : ℕ) → a < b → a ≡ b → ⊥
    apart a b l z = omega arith

    same : (a b : ℕ) → a ≤ b → b ≤ a → a ≡ b
    same a b k l = omega arith

module _ (f g : Fraction) (F : Share f) (G : Share g) (i j : ℕ) where
  pub before_alike : rounded_before f i g j ≡ share_before f i g j
  unfolding rounded_before share_before
  before_alike =
      let down = above_alike g f (share_proper g G) (share_proper f F) (near g f G F) in
      let up = above_alike f g (share_proper f F) (share_proper g G) (near f g F G) in
      rw (down, up) (tie (f.num * g.den) (g.num * f.den) (ltb i j))
