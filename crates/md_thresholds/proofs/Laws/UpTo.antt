-- Sums that are at most a whole number, each operation rounded once: an f32 holds the whole number, and rounding keeps the order (`round_up_to`,
-- `rounded_up_to`, `up_to_plus`, `up_to_whole`, `whole_up_to`).
-- Assumes nothing.
use Prim.Native.Nat.{ℕ, ◌+◌, ◌*◌, ◌^◌, ◌≤◌, ◌<◌}
use mathlib.Core.Path.{◌≡◌, sym, ◌∙◌, subst}
use mathlib.Core.Bool.{true, false}
use native.Mathlib.Nat.{lt_of_le_of_lt, mul-le-mul_right, mul-one}
use native.Mathlib.Omega.{arith}
use lib.Dec.{lit<}
use lib.Pow.{pow_pos}
use lib.Ieee.{Float, binary32, round, of_int, le}
use lib.Ieee.Back.{round_whole}
use lib.Ieee.Bits.{is_true}
use lib.Ieee.Exact.{HasValue}
use lib.Ieee.Order.{round_mono}
use lib.Ieee.Scale.{grid, round_val}
use lib.IntN.{pos}
use borrow.Author.Tests.{leb-true, le-leb}
use Rattle.ratio.specs.declared.Fraction.{Fraction}
use Rattle.ratio.specs.Parts.{ONE}
use Rattle.ratio.specs.Rounded.{rounded, ◌⊕◌}
use Rattle.ratio.specs.Inner.Fraction.{MOST_NUM, Small, Proper}
use Rattle.ratio.proofs.Laws.Comparing.{le_is}
use Rattle.ratio.proofs.Laws.Grid.{grid_whole}
use Rattle.ratio.proofs.Laws.Once.{Once}
use Rattle.ratio.proofs.Laws.Operations.{add_at}
use Rattle.ratio.proofs.Laws.Rounded.{parts_of, rounded_value, rounded_at_most}

-- numbers, with l parts to one
few : (w v k l : ℕ) → Once w v → k ≤ 2 ^ 24 → v ≤ k * l → w ≤ 2 ^ 25 * l
few w v k l o K h = omega (arith, mul-le-mul_right l K)

-- x has no minus sign and is at most k
pub record UpTo (k : ℕ) (x : Float) : Type 0 where
  pub parts : ℕ
  pub value : HasValue x false parts ONE
  pub most : parts ≤ k * ONE

-- k as an f32
abbrev pub whole : ℕ → Float
whole k = of_int binary32 (pos k)

pub whole_value : (k : ℕ) → k ≤ 2 ^ 24 → HasValue (whole k) false k 1
unfolding of_int
whole_value k K = round_whole binary32 false k K

-- where x is at most k in f32
of_le : (k : ℕ) (x : Float) (w : ℕ) → k ≤ 2 ^ 24 → HasValue x false w ONE → le x (whole k) ≡ true → UpTo k x
of_le k x w K v h =
    let most : w * 1 ≤ k * ONE = leb-true (w * 1) (k * ONE) (sym (le_is w ONE k 1 (pow_pos 149) (lit< tt) x (whole k) v (whole_value k K)) ∙ h) in
    record { parts = w; value = v; most = rw mul-one at most }

pub up_to_whole : (k : ℕ) (x : Float) → k ≤ 2 ^ 24 → UpTo k x → le x (whole k) ≡ true
up_to_whole k x K u =
    le_is u.parts ONE k 1 (pow_pos 149) (lit< tt) x (whole k) u.value (whole_value k K)
    ∙ le-leb (u.parts * 1) (k * ONE) (rw mul-one u.most)

pub round_up_to : (k v : ℕ) → k ≤ 2 ^ 24 → v ≤ k * ONE → UpTo k (round binary32 false v ONE)
unfolding of_int
round_up_to k v K h =
    let w = grid binary32 v ONE in
    let x = round binary32 false v ONE in
    of_le k x w K
    (round_val binary32 v ONE (lt_of_le_of_lt (few w v k ONE (grid_whole v) K h) (lit< tt)))
    (is_true (le x (whole k)) (round_mono binary32 v ONE k 1 (pow_pos 149) (lit< tt) (rw mul-one h)))

pub rounded_up_to : (k : ℕ) (f : Fraction) → k ≤ 2 ^ 24 → Proper f → f.num ≤ k * f.den → UpTo k (rounded f)
rounded_up_to k f K p h = of_le k (rounded f) (parts_of f) K (rounded_value f p) (rounded_at_most k f p h)

pub up_to_plus : (a b : ℕ) (x y : Float) → a + b ≤ 2 ^ 24 → UpTo a x → UpTo b y → UpTo (a + b) (x ⊕ y)
up_to_plus a b x y K u v =
    subst (UpTo (a + b)) (sym (add_at binary32 u.parts v.parts ONE (pow_pos 149) x y u.value v.value))
    (round_up_to (a + b) (u.parts + v.parts) K (both u.parts v.parts a b ONE u.most v.most))
  where
    both : (p q a b l : ℕ) → p ≤ a * l → q ≤ b * l → p + q ≤ (a + b) * l
    both p q a b l h k = omega arith

pub whole_up_to : (k : ℕ) → k ≤ MOST_NUM → UpTo k (whole k)
unfolding of_int rounded
whole_up_to k K =
    rounded_up_to k (record { num = k; den = 1 }) (omega arith) (record { small = record { num = K; den = omega arith }; positive = lit< tt }) (omega arith)
