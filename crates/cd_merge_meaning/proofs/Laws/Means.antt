-- Each mean lies between 0 and 1, rounding included (02 [14], "For scores of 0 to 1 show that each mean, rounding included, lies between 0 and 1"). A sum
-- of k scores, each addition rounded once, is at most k, since an f32 holds k (`sum_up_to`); over k it rounds to at most 1, which an f32 holds too
-- (`mean_score`). -0.0 adds nothing. So a mean is an f32 with no minus sign (`mean_plain`, `mean_single`).
-- Assumes nothing.
use Prim.Native.Nat.{ℕ, zero, suc, ◌+◌, ◌-◌, ◌*◌, ◌^◌, ◌≤◌, ◌<◌}
use mathlib.Core.Path.{◌≡◌, refl, sym, ap, ◌∙◌, subst}
use mathlib.Core.Bool.{Bool, true, false, cond, ◌&&◌, true≢false}
use mathlib.Core.List.{List}
use native.Mathlib.Nat.{lt_of_le_of_lt, mul-le-mul_right, mul-one, one-mul, mul-pos, sub-zero, zero-mul}
use native.Mathlib.Omega.{arith}
use lib.Dec.{T, eqb, ltb, lit<, lit≤}
use lib.Arith.{lt_of_le-ne}
use lib.Pow.{pow_pos}
use lib.IntN.{ℤ, pos}
use lib.Ieee.{Float, nan, inf, fin, binary32, up, down, round, add, div, of_int, of_bits, units, odd, le, fits}
use lib.Ieee.Back.{round_whole}
use lib.Ieee.Bits.{is_true, of_bits-fits}
use lib.Ieee.Exact.{HasValue}
use lib.Ieee.Fits.{down_pos, round_is, div-fits}
use lib.Ieee.Order.{round_mono}
use lib.Ieee.Scale.{grid, finite, round_val, round_under, round_same}
use borrow.Author.Tests.{leb-true, le-ltb, eqb-true, eqb-false}
use Rattle.base.proofs.Laws.Tests.{and_l, and_r}
use Rattle.ratio.specs.Parts.{ONE}
use Rattle.ratio.specs.Rounded.{ZERO, ◌⊕◌}
use Rattle.ratio.specs.Inner.Finite.{Plain}
use Rattle.ratio.proofs.Laws.Comparing.{le_is}
use Rattle.ratio.proofs.Laws.Finite.{plain_of}
use Rattle.ratio.proofs.Laws.Grid.{grid_whole}
use Rattle.ratio.proofs.Laws.Once.{Once}
use Rattle.ratio.proofs.Laws.Operations.{add_at, div_at}
use Rattle.ratio.proofs.Laws.Parts.{parts_whole}
use Rattle.cd_merge_meaning.specs.Entries.{entries, language_at, score_at}
use Rattle.cd_merge_meaning.specs.Merge.{sum_of, count_of, mean, mean_at}
use Rattle.cd_merge_meaning.specs.Answer.{is_score}
use Rattle.cd_merge_meaning.specs.Inner.Good.{Good}
use Rattle.cd_merge_meaning.proofs.Laws.Check.{score_nan}

-- ---- numbers, with l parts to one
few : (w v k l : ℕ) → Once w v → k ≤ 2 ^ 24 → v ≤ k * l → w ≤ 2 ^ 25 * l
few w v k l o K h = omega (arith, mul-le-mul_right l K)

ones : (w v : ℕ) → w ≤ v → w * 1 * 1 ≤ 1 * v
ones w v h = omega arith

-- ---- a number of parts, rounded
abbrev pub ONE_F32 : Float
ONE_F32 = of_bits binary32 0x3F800000

-- s has no minus sign and is at most k
pub record UpTo (k : ℕ) (s : Float) : Type 0 where
  pub parts : ℕ
  pub value : HasValue s false parts ONE
  pub most : parts ≤ k * ONE

none_up_to : UpTo 0 ZERO
unfolding of_bits
none_up_to = record { parts = 0; value = (refl, refl); most = lit≤ tt }

round_up_to : (k v : ℕ) → k ≤ 2 ^ 24 → v ≤ k * ONE → UpTo k (round binary32 false v ONE)
round_up_to k v K h =
    let w = grid binary32 v ONE in
    let x = round binary32 false v ONE in
    let y = round binary32 false k 1 in
    let value : HasValue x false w ONE = round_val binary32 v ONE (lt_of_le_of_lt (few w v k ONE (grid_whole v) K h) (lit< tt)) in
    let below : le x y ≡ true = is_true (le x y) (round_mono binary32 v ONE k 1 (pow_pos 149) (lit< tt) (rw mul-one h)) in
    let most : w * 1 ≤ k * ONE =
    leb-true (w * 1) (k * ONE) (sym (le_is w ONE k 1 (pow_pos 149) (lit< tt) x y value (round_whole binary32 false k K)) ∙ below) in
    record { parts = w; value = value; most = rw mul-one at most }

-- ---- a score: so many parts, at most one, and what it adds
record Adds (x : Float) : Type 0 where
  parts : ℕ
  most : parts ≤ ONE
  adds : (s : Float) (w : ℕ) → HasValue s false w ONE → s ⊕ x ≡ round binary32 false (w + parts) ONE

pub one_value : HasValue ONE_F32 false 1 1
unfolding of_bits
one_value = (refl, refl)

plus_adds : (m : ℕ) (g : ℤ) → T (fits binary32 (fin false m g)) → le (fin false m g) ONE_F32 ≡ true → Adds (fin false m g)
plus_adds m g t h =
    let p = parts_whole (fin false m g) tt t in
    let v : HasValue (fin false m g) false p.size ONE = subst (λ (b : Bool). HasValue (fin false m g) b p.size ONE) (sym p.value.0) p.value in
    record {
      parts = p.size;
      most = rw (mul-one, one-mul) at (leb-true (p.size * 1) (1 * ONE) (sym (le_is p.size ONE 1 1 (pow_pos 149) (lit< tt) (fin false m g) ONE_F32 v one_value) ∙ h));
      adds = λ s w q. add_at binary32 w p.size ONE (pow_pos 149) s (fin false m g) q v;
    }

-- a number that has a minus sign and is not below +0.0 is -0.0
minus_zero : (m : ℕ) (g : ℤ) → le ZERO (fin true m g) ≡ true → m * up g ≡ 0
unfolding le of_bits
minus_zero m g h = nought (0 * 1 * down g) (m * up g) (zero-mul (down g)) (eqb-true _ _ (and_l _ _ h))
  where
    nought : (a b : ℕ) → a ≡ 0 → a ≡ b * 1 → b ≡ 0
    nought a b e f = omega arith

module _ (m : ℕ) (g : ℤ) (z : m * up g ≡ 0) where
  taken : (a b c : ℕ) → b ≡ 0 → cond (ltb a b) (round binary32 true (b - a) c) (round binary32 (false && ltb b a) (a - b) c) ≡ round binary32 false a c
  taken a b c e = rw (e, le-ltb a 0 (omega arith), sub-zero)

  cross : (n l w a b : ℕ) → n * l ≡ w * a → n * b * l ≡ (w + 0) * (a * b)
  cross n l w a b h = omega (arith, ap (λ (y : ℕ). y * b) h)

  adds_nothing : (s : Float) (w : ℕ) → HasValue s false w ONE → s ⊕ fin true m g ≡ round binary32 false (w + 0) ONE
  unfolding add
  adds_nothing nan w q = absurd q
  adds_nothing (inf t) w q = absurd q
  adds_nothing (fin true n k) w q = absurd (true≢false q.0)
  adds_nothing (fin false n k) w q =
      taken (n * up k * down g) (m * up g * down k) (down k * down g) (ap (λ (v : ℕ). v * down k) z ∙ zero-mul (down k))
      ∙ round_same binary32 false (n * up k * down g) (down k * down g) (w + 0) ONE (mul-pos (down_pos k) (down_pos g)) (pow_pos 149)
      (cross (n * up k) ONE w (down k) (down g) q.1)

  minus_adds : Adds (fin true m g)
  minus_adds = record { parts = 0; most = lit≤ tt; adds = adds_nothing }

score_low : (x : Float) → is_score x ≡ true → le ZERO x ≡ true
unfolding is_score
score_low x e = and_l (le ZERO x) (le x ONE_F32) e

pub score_high : (x : Float) → is_score x ≡ true → le x ONE_F32 ≡ true
unfolding is_score
score_high x e = and_r (le ZERO x) (le x ONE_F32) e

pub infinity_none : (s : Bool) → is_score (inf s) ≡ true → ⊥
unfolding is_score le of_bits
infinity_none true e = true≢false (sym e)
infinity_none false e = true≢false (sym e)

score_adds : (x : Float) → T (fits binary32 x) → is_score x ≡ true → Adds x
score_adds nan t e = absurd (true≢false (sym e ∙ score_nan))
score_adds (inf s) t e = absurd (infinity_none s e)
score_adds (fin true m g) t e = minus_adds m g (minus_zero m g (score_low (fin true m g) e))
score_adds (fin false m g) t e = plus_adds m g t (score_high (fin false m g) e)

up_to_more : (k : ℕ) (s x : Float) → k < 2 ^ 24 → UpTo k s → T (fits binary32 x) → is_score x ≡ true → UpTo (k + 1) (s ⊕ x)
up_to_more k s x K u t e =
    let a = score_adds x t e in
    subst (UpTo (k + 1)) (sym (a.adds s u.parts u.value))
    (round_up_to (k + 1) (u.parts + a.parts) (omega arith) (more u.parts a.parts k ONE u.most a.most))
  where
    more : (w r k l : ℕ) → w ≤ k * l → r ≤ l → w + r ≤ (k + 1) * l
    more w r k l h j = omega arith

-- ---- the scores of a language
module _ (list : List ℕ) (language : ℕ) where
  pub count_few : (n : ℕ) → count_of list language n ≤ n
  unfolding count_of
  count_few zero = omega arith
  count_few (suc n) = go (eqb (language_at list n) language) (count_few n)
    where
      go : (t : Bool) → count_of list language n ≤ n → cond t (count_of list language n + 1) (count_of list language n) ≤ suc n
      go true h = omega arith
      go false h = omega arith

  count_some : (i n : ℕ) → i < n → language_at list i ≡ language → 0 < count_of list language n
  unfolding count_of
  count_some i zero h e = absurd (omega arith)
  count_some i (suc n) h e = go (eqb (language_at list n) language) refl (λ l. count_some i n l e)
    where
      go : (t : Bool) → eqb (language_at list n) language ≡ t → (i < n → 0 < count_of list language n)
          → 0 < cond t (count_of list language n + 1) (count_of list language n)
      go true p k = omega arith
      go false p k = k (other (λ (s : i ≡ n). eqb-false (language_at list n) language p (ap (language_at list) (sym s) ∙ e)))
        where
          other : (i ≡ n → ⊥) → i < n
          other d = lt_of_le-ne (omega arith) d

  module _ (g : Good list) where
    pub sum_up_to : (n : ℕ) → n ≤ entries list → UpTo (count_of list language n) (sum_of list language n)
    unfolding sum_of count_of
    sum_up_to zero h = none_up_to
    sum_up_to (suc n) h = go (eqb (language_at list n) language) (sum_up_to n (omega arith))
      where
        go : (t : Bool) → UpTo (count_of list language n) (sum_of list language n)
            → UpTo (cond t (count_of list language n + 1) (count_of list language n)) (cond t (sum_of list language n ⊕ score_at list n) (sum_of list language n))
        go true u =
            up_to_more (count_of list language n) (sum_of list language n) (score_at list n) (omega (arith, count_few n, g.few)) u
            (of_bits-fits binary32 _) (g.scored n (omega arith))
        go false u = u

-- ---- a sum of k scores over k
-- what rounding without a minus sign gives
abbrev Plus : Float → Type 0
Plus nan = ⊥
Plus (inf true) = ⊥
Plus (inf false) = Unit
Plus (fin s m e) = Unit

plus_odd : (d q k l : ℕ) → Plus (odd d false q k l)
unfolding odd
plus_odd d zero k l = tt
plus_odd d (suc q) k l = tt

plus_units : (q k : ℕ) → Plus (units binary32 false q k)
unfolding units
plus_units q k = go (ltb (q * 2 ^ k) (2 ^ (149 + 128)))
  where
    go : (b : Bool) → Plus (cond b (odd 25 false q k 149) (inf false))
    go true = plus_odd 25 q k 149
    go false = tt

plus_round : (a c : ℕ) → Plus (round binary32 false a c)
plus_round a c = subst Plus (sym (round_is binary32 false a c)) (plus_units _ _)

-- not above 1, so no infinity
at_most_finite : (x : Float) → Plus x → le x ONE_F32 ≡ true → T (finite x)
unfolding le of_bits
at_most_finite nan p h = absurd p
at_most_finite (inf true) p h = absurd p
at_most_finite (inf false) p h = absurd (true≢false (sym h))
at_most_finite (fin s m e) p h = tt

one_is : round binary32 false 1 1 ≡ ONE_F32
unfolding round of_bits
one_is = refl

module _ (k : ℕ) (s : Float) (K : 0 < k) (L : k ≤ 2 ^ 24) (u : UpTo k s) where
  abbrev over_k : Float
  over_k = div binary32 s (of_int binary32 (pos k))

  over_is : over_k ≡ round binary32 false (u.parts * 1) (k * ONE)
  unfolding of_int
  over_is = div_at binary32 u.parts ONE k 1 (pow_pos 149) (lit< tt) s (of_int binary32 (pos k)) K u.value (round_whole binary32 false k L)

  over_most : le over_k ONE_F32 ≡ true
  over_most =
      ap (λ (z : Float). le z ONE_F32) over_is
      ∙ ap (le (round binary32 false (u.parts * 1) (k * ONE))) (sym one_is)
      ∙ is_true (le (round binary32 false (u.parts * 1) (k * ONE)) (round binary32 false 1 1))
      (round_mono binary32 (u.parts * 1) (k * ONE) 1 1 (mul-pos K (pow_pos 149)) (lit< tt) (ones u.parts (k * ONE) u.most))

  over_plain : Plain over_k
  over_plain =
      subst Plain (sym over_is)
      (plain_of (round binary32 false (u.parts * 1) (k * ONE)) (grid binary32 (u.parts * 1) (k * ONE))
      (round_val binary32 (u.parts * 1) (k * ONE)
      (round_under binary32 (u.parts * 1) (k * ONE)
      (at_most_finite _ (plus_round (u.parts * 1) (k * ONE)) (ap (λ (z : Float). le z ONE_F32) (sym over_is) ∙ over_most)))))

module _ (list : List ℕ) (g : Good list) (i : ℕ) (h : i < entries list) where
  abbrev scores : ℕ
  scores = count_of list (language_at list i) (entries list)

  some : 0 < scores
  some = count_some list (language_at list i) i (entries list) h refl

  held : scores ≤ 2 ^ 24
  held = omega (arith, count_few list (language_at list i) (entries list), g.few)

  summed : UpTo scores (sum_of list (language_at list i) (entries list))
  summed = sum_up_to list (language_at list i) g (entries list) (omega arith)

  pub mean_plain : Plain (mean_at list i)
  unfolding mean
  mean_plain = over_plain scores (sum_of list (language_at list i) (entries list)) some held summed

  pub mean_single : fits binary32 (mean_at list i) ≡ true
  unfolding mean
  mean_single = is_true (fits binary32 _) (div-fits binary32 (sum_of list (language_at list i) (entries list)) (of_int binary32 (pos scores)))

  mean_most : le (mean_at list i) ONE_F32 ≡ true
  unfolding mean
  mean_most = over_most scores (sum_of list (language_at list i) (entries list)) some held summed

  -- it is from 0 to 1
  pub mean_score : is_score (mean_at list i) ≡ true
  unfolding is_score
  mean_score = rw (mean_plain.not_negative, mean_most)
