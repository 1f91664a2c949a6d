-- Laws of what is checked of a list: bits are a NaN's exactly where they are above those of an infinity past the sign, and a NaN is no score (`nan_score`,
-- `number_bits`, `score_bits`); lengths that fit are those of at most 4,032 entries (`fit_few`), and scores that were passed make the list good
-- (`fit_good`).
-- Assumes nothing.
use Prim.Native.Nat.{ℕ, ◌*◌, ◌%◌, ◌≤◌, ◌<◌}
use mathlib.Core.Path.{◌≡◌, refl, sym, ap, ◌∙◌, subst}
use mathlib.Core.Bool.{Bool, true, false, not, ◌||◌, true≢false}
use mathlib.Core.List.{List, [], ◌∷◌}
use native.Mathlib.Omega.{arith}
use lib.ListN.{length}
use lib.Dec.{T, eqb, ltb}
use lib.Ieee.{Float, nan, inf, fin, binary32, of_bits, is_nan, nan_bits, le}
use lib.Ieee.Bits.{nan_bits_is, nan_bits_above}
use borrow.Author.Tests.{lt-ltb, le-ltb, ltb-false, eqb-true, not-false}
use Rattle.base.proofs.Laws.First.{first_before}
use Rattle.cd_merge_meaning.specs.Entries.{entries, score_at}
use Rattle.cd_merge_meaning.specs.Answer.{MOST_RANKINGS, LONGEST_RANKING, over, total, unfit, is_score, first_bad}
use Rattle.cd_merge_meaning.specs.Inner.Good.{MOST_ENTRIES, Fit, Good}

-- ---- scores
abbrev INFINITY : ℕ
INFINITY = 0x7F800000

abbrev SIGN : ℕ
SIGN = 0x80000000

above : (bits : ℕ) → nan_bits binary32 bits ≡ ltb INFINITY (bits % SIGN)
above bits = nan_bits_above binary32 bits

nan_of : (x : Float) → is_nan x ≡ true → x ≡ nan
unfolding is_nan
nan_of nan e = refl
nan_of (inf s) e = absurd (true≢false (sym e))
nan_of (fin s m g) e = absurd (true≢false (sym e))

pub score_nan : is_score nan ≡ false
unfolding is_score le of_bits
score_nan = refl

pub nan_score : (bits : ℕ) → INFINITY < bits % SIGN → is_score (of_bits binary32 bits) ≡ false
nan_score bits h =
    ap is_score (nan_of (of_bits binary32 bits) (sym (nan_bits_is binary32 bits) ∙ above bits ∙ lt-ltb INFINITY (bits % SIGN) h)) ∙ score_nan

-- bits of a number can be made a float
pub number_bits : (bits : ℕ) → bits % SIGN ≤ INFINITY → T (not (nan_bits binary32 bits))
number_bits bits h = subst (λ (b : Bool). T (not b)) (sym (above bits ∙ le-ltb INFINITY (bits % SIGN) h)) tt

pub score_bits : (bits : ℕ) → is_score (of_bits binary32 bits) ≡ true → T (not (nan_bits binary32 bits))
score_bits bits e = go (nan_bits binary32 bits) (nan_bits_is binary32 bits)
  where
    go : (b : Bool) → b ≡ is_nan (of_bits binary32 bits) → T (not b)
    go true p = absurd (true≢false (sym e ∙ ap is_score (nan_of (of_bits binary32 bits) (sym p)) ∙ score_nan))
    go false p = tt

-- ---- lengths
or_both : (a b : Bool) → (a || b) ≡ false → (a ≡ false) × (b ≡ false)
or_both true b e = absurd (true≢false e)
or_both false b e = (refl, e)

pub total_few : (l : List ℕ) → over l ≡ false → total l ≤ LONGEST_RANKING * length l
unfolding over total
total_few [] e = omega arith
total_few (n ∷ l) e =
    let b = or_both (ltb LONGEST_RANKING n) (over l) e in
    let h : n ≤ LONGEST_RANKING = ltb-false LONGEST_RANKING n b.0 in
    let k : total l ≤ LONGEST_RANKING * length l = total_few l b.1 in
    omega arith

module _ (list lengths : List ℕ) where
  pub many_unfit : MOST_RANKINGS < length lengths → unfit list lengths ≡ true
  unfolding unfit
  many_unfit h = rw (lt-ltb MOST_RANKINGS (length lengths) h)

  module _ (h : length lengths ≤ MOST_RANKINGS) where
    pub over_unfit : over lengths ≡ true → unfit list lengths ≡ true
    unfolding unfit
    over_unfit e = rw (le-ltb MOST_RANKINGS (length lengths) h, e)

    pub total_unfit : over lengths ≡ false → unfit list lengths ≡ not (eqb (total lengths * 2) (length list))
    unfolding unfit
    total_unfit e = rw (le-ltb MOST_RANKINGS (length lengths) h, e)

    pub total_small : over lengths ≡ false → total lengths ≤ MOST_ENTRIES
    total_small e = let k : total lengths ≤ LONGEST_RANKING * length lengths = total_few lengths e in omega arith

  pub fit_few : Fit list lengths → entries list ≤ MOST_ENTRIES
  unfolding unfit
  fit_few f =
      let a = or_both (ltb MOST_RANKINGS (length lengths)) (over lengths || not (eqb (total lengths * 2) (length list))) f in
      let b = or_both (over lengths) (not (eqb (total lengths * 2) (length list))) a.1 in
      let m : length lengths ≤ MOST_RANKINGS = ltb-false MOST_RANKINGS (length lengths) a.0 in
      let s : total lengths ≤ MOST_ENTRIES = total_small m b.0 in
      let e : total lengths * 2 ≡ length list = eqb-true (total lengths * 2) (length list) (not-false (eqb (total lengths * 2) (length list)) b.1) in
      omega arith

  pub fit_good : Fit list lengths → entries list ≤ first_bad list → Good list
  unfolding first_bad
  fit_good f h =
      record {
        few = fit_few f;
        scored = λ i l. not-false (is_score (score_at list i)) (first_before (λ k. not (is_score (score_at list k))) (entries list) i (below i l));
      }
    where
      below : (i : ℕ) → i < entries list → i < first_bad list
      below i l = omega arith
