-- The merge of one ranking is that ranking: where no two entries have one language and no score has a minus sign, which of scores -0.0 alone has, each
-- mean is the score itself (`one_mean`), and where the scores do not rise, the entries that are written are those of the list, in its order (`one_words`).
-- Nothing is rounded: +0.0 and a score add up to that score, and over 1 it stays (`own_value`).
-- Assumes nothing.
use Prim.Native.Nat.{ℕ, zero, suc, ◌+◌, ◌-◌, ◌*◌, ◌%◌, ◌^◌, ◌≤◌, ◌<◌}
use mathlib.Core.Path.{◌≡◌, refl, sym, ap, ◌∙◌, subst}
use mathlib.Core.Logic.{inl, inr}
use mathlib.Core.Bool.{Bool, true, false, not, ◌&&◌, ◌||◌, true≢false}
use mathlib.Core.List.{List, [], ◌∷◌, ◌++◌, append_assoc}
use native.Mathlib.Nat.{le_refl, le_of_suc-le-suc, lt_of_not-le, not-le_of_lt, lt_of_le_of_lt, mul-one, one-mul, zero-add, zero-mul, mul_assoc}
use native.Mathlib.Numerals.{add-one}
use native.Mathlib.Omega.{arith}
use lib.ListN.{length, get_or, take}
use lib.Seq.{take-suc, take_all}
use lib.Dec.{T, eqb, leb, ltb, lit<, lit≤, ltb→lt, leb→le}
use lib.Pow.{pow-add, pow_pos, pow-lt}
use lib.IntN.{ℤ, pos, negsuc}
use lib.Ieee.{Float, nan, inf, fin, binary32, up, down, round, div, of_int, of_bits, to_bits, fits, le, lt}
use lib.Ieee.Back.{round_whole}
use lib.Ieee.Bits.{is_true, of_bits-fits, to_bits-of_bits, nan_bits_is}
use lib.Ieee.Digits.{back}
use lib.Ieee.Exact.{HasValue, round_exact}
use lib.Ieee.Fits.{round-fits}
use borrow.Author.Tests.{leb-true, le-leb, lt-ltb, eq-eqb, ne_eqb}
use Rattle.base.proofs.Laws.First.{first_none}
use Rattle.base.proofs.Laws.In.{In}
use Rattle.base.proofs.Laws.Tests.{split}
use Rattle.ratio.specs.Parts.{ONE}
use Rattle.ratio.specs.Rounded.{ZERO, ◌⊕◌, bits_of}
use Rattle.ratio.proofs.Laws.Comparing.{le_is}
use Rattle.ratio.proofs.Laws.Finite.{plain_of}
use Rattle.ratio.proofs.Laws.Operations.{add_at, div_at}
use Rattle.cd_order.specs.Chosen.{passing}
use Rattle.cd_order.specs.Sorting.{placed, in_order}
use Rattle.cd_order.proofs.Laws.Chosen.{Rises, chosen_none, chosen_more, chosen_in, chosen_up}
use Rattle.cd_best.proofs.Laws.BitsOrder.{le_both}
use Rattle.cd_ranking.specs.Ranking.{stands_before}
use Rattle.cd_merge_meaning.specs.Entries.{entries, language_at, score_at}
use Rattle.cd_merge_meaning.specs.Merge.{sum_of, count_of, mean, mean_at, is_first, firsts, merged, words_of, merged_words}
use Rattle.cd_merge_meaning.specs.Answer.{is_score}
use Rattle.cd_merge_meaning.specs.Inner.Good.{Good}
use Rattle.cd_merge_meaning.proofs.Laws.Check.{score_nan, score_bits}
use Rattle.cd_merge_meaning.proofs.Laws.Means.{ONE_F32, one_value, infinity_none, score_high}

-- ---- an f32 from 0 to 1 is itself when it is rounded: 24 digits and a power of two
record Own (x : Float) : Type 0 where
  digits : ℕ
  shift : ℕ
  small : digits < 2 ^ 24
  value : HasValue x false (digits * 2 ^ shift) ONE

low_enough : (k : ℕ) → 2 ^ suc k ≤ ONE → suc k ≤ 149
low_enough k h = le_of_suc-le-suc (lt_of_not-le (λ (g : 149 < suc k). not-le_of_lt (pow-lt g) h))

fit_parts : (m : ℕ) (e : ℤ) → T (fits binary32 (fin false (suc m) e)) → (suc m < 2 ^ 24) × (down e ≤ ONE)
unfolding fits
fit_parts m e t = parts (eqb (suc m % 2) 1) (ltb (suc m) (2 ^ 24)) (leb (down e) ONE) (ltb (suc m * up e) (2 ^ 128 * down e)) t (ltb→lt _ _) (leb→le _ _)
  where
    parts : {A B : Type 0} (a b c d : Bool) → T (a && b && c && d) → (T b → A) → (T c → B) → A × B
    parts true true true true t f g = (f tt, g tt)
    parts true true true false t f g = absurd t
    parts true true false d t f g = absurd t
    parts true false c d t f g = absurd t
    parts false b c d t f g = absurd t

own_of : (m : ℕ) (e : ℤ) → T (fits binary32 (fin false m e)) → Own (fin false m e)
own_of zero e t = record { digits = 0; shift = 0; small = lit< tt; value = (refl, ap (λ (z : ℕ). z * ONE) (zero-mul (up e)) ∙ sym (zero-mul (down e))) }
own_of (suc m) (pos k) t =
    record {
      digits = suc m;
      shift = k + 149;
      small = (fit_parts m (pos k) t).0;
      value = (refl, mul_assoc (suc m) (2 ^ k) ONE ∙ ap (λ (z : ℕ). suc m * z) (sym (pow-add 2 k 149)) ∙ sym (mul-one (suc m * 2 ^ (k + 149))));
    }
own_of (suc m) (negsuc k) t =
    record {
      digits = suc m;
      shift = 149 - suc k;
      small = (fit_parts m (negsuc k) t).0;
      value = (
        refl,
        ap (λ (z : ℕ). z * ONE) (mul-one (suc m))
            ∙ ap (λ (z : ℕ). suc m * z) (ap (λ (z : ℕ). 2 ^ z) (sym (back 149 (suc k) (low_enough k (fit_parts m (negsuc k) t).1)))
            ∙ pow-add 2 (149 - suc k) (suc k))
            ∙ sym (mul_assoc (suc m) (2 ^ (149 - suc k)) (2 ^ suc k)),
      );
    }

-- of one value there is one f32 without a minus sign
one_f32 : (x y : Float) (r : ℕ) → fits binary32 x ≡ true → fits binary32 y ≡ true → HasValue x false r ONE → HasValue y false r ONE → x ≡ y
one_f32 x y r f g p q = le_both x y (plain_of x r p) (plain_of y r q) f g (below x y p q) (below y x q p)
  where
    below : (x y : Float) → HasValue x false r ONE → HasValue y false r ONE → le x y ≡ true
    below x y p q = le_is r ONE r ONE (pow_pos 149) (pow_pos 149) x y p q ∙ le-leb (r * ONE) (r * ONE) (le_refl (r * ONE))

zero_value : HasValue ZERO false 0 ONE
unfolding of_bits
zero_value = (refl, refl)

one_count : HasValue (of_int binary32 (pos 1)) false 1 1
unfolding of_int
one_count = round_whole binary32 false 1 (lit≤ tt)

module _ (x : Float) (t : T (fits binary32 x)) (o : Own x) where
  abbrev size : ℕ
  size = o.digits * 2 ^ o.shift

  own_value : size ≤ ONE → round binary32 false size ONE ≡ x
  own_value h =
      one_f32 (round binary32 false size ONE) x size (is_true (fits binary32 _) (round-fits binary32 false size ONE)) (is_true (fits binary32 x) t)
      (round_exact binary32 false size ONE o.digits o.shift (pow_pos 149) o.small (lt_of_le_of_lt h (lit< tt)) refl) o.value

  -- from +0.0 on, and over 1
  module _ (h : size ≤ ONE) where
    own_sum : ZERO ⊕ x ≡ x
    own_sum = add_at binary32 0 size ONE (pow_pos 149) ZERO x zero_value o.value ∙ ap (λ (z : ℕ). round binary32 false z ONE) (zero-add size) ∙ own_value h

    own_over : div binary32 x (of_int binary32 (pos 1)) ≡ x
    own_over =
        div_at binary32 size ONE 1 1 (pow_pos 149) (lit< tt) x (of_int binary32 (pos 1)) (lit< tt) o.value one_count
        ∙ ap (λ (z : ℕ). round binary32 false z (1 * ONE)) (mul-one size) ∙ ap (λ (z : ℕ). round binary32 false size z) (one-mul ONE) ∙ own_value h

    own_mean : div binary32 (ZERO ⊕ x) (of_int binary32 (pos 1)) ≡ x
    own_mean = ap (λ (z : Float). div binary32 z (of_int binary32 (pos 1))) own_sum ∙ own_over

-- ---- a score whose bits have no minus sign
minus_bits : (m : ℕ) (e : ℤ) → 0x80000000 ≤ to_bits binary32 (fin true m e)
unfolding to_bits
minus_bits m e = omega arith

bits_back : (bits : ℕ) → bits < 0x80000000 → is_score (of_bits binary32 bits) ≡ true → to_bits binary32 (of_bits binary32 bits) ≡ bits
bits_back bits l s = to_bits-of_bits binary32 bits (omega arith) (subst (λ (b : Bool). T (not b)) (nan_bits_is binary32 bits) (score_bits bits s))

at_most_lem : (x : Float) (o : Own x) → is_score x ≡ true → o.digits * 2 ^ o.shift ≤ ONE
at_most_lem x o s =
    let n = o.digits * 2 ^ o.shift in
    let h : n * 1 ≤ 1 * ONE = leb-true (n * 1) (1 * ONE) (sym (le_is n ONE 1 1 (pow_pos 149) (lit< tt) x ONE_F32 o.value one_value) ∙ score_high x s) in
    rw (mul-one, one-mul) at h

score_own : (bits : ℕ) → bits < 0x80000000 → is_score (of_bits binary32 bits) ≡ true → div binary32 (ZERO ⊕ of_bits binary32 bits) (of_int binary32 (pos 1)) ≡ of_bits binary32 bits
score_own bits l s = go (of_bits binary32 bits) (of_bits-fits binary32 bits) s (bits_back bits l s)
  where
    go : (x : Float) → T (fits binary32 x) → is_score x ≡ true → to_bits binary32 x ≡ bits → div binary32 (ZERO ⊕ x) (of_int binary32 (pos 1)) ≡ x
    go nan t s e = absurd (true≢false (sym s ∙ score_nan))
    go (inf b) t s e = absurd (infinity_none b s)
    go (fin true m g) t s e = absurd (omega (arith, l, e, minus_bits m g))
    go (fin false m g) t s e = own_mean (fin false m g) t (own_of m g t) (at_most_lem (fin false m g) (own_of m g t) s)

-- ---- a list that is in order already
in_order_same : (before : ℕ → ℕ → Bool) (l : List ℕ) → Rises l → ((x y : ℕ) → In x l → In y l → x < y → before x y ≡ true) → in_order before l ≡ l
unfolding in_order placed
in_order_same before [] u h = refl
in_order_same before (x ∷ []) u h = refl
in_order_same before (x ∷ y ∷ l) u h =
    ap (placed before x) (in_order_same before (y ∷ l) u.1 (λ a b i k. h a b (inr i) (inr k)))
    ∙ rw (h x y (inl refl) (inr (inl refl)) u.0)

-- ---- one ranking
-- no two entries have one language, and no score a minus sign
pub record Ranking (list : List ℕ) : Type 0 where
  pub good : Good list
  pub differ : (i k : ℕ) → i < k → k < entries list → language_at list i ≡ language_at list k → ⊥
  pub plus : (i : ℕ) → i < entries list → get_or list (i * 2 + 1) 0 < 0x80000000

-- the only score of its language
record Alone (list : List ℕ) (i n : ℕ) (sum : Float) (count : ℕ) : Type 0 where
  adds : sum_of list (language_at list i) n ≡ sum
  counts : count_of list (language_at list i) n ≡ count

module _ (list : List ℕ) (r : Ranking list) where
  module _ (i : ℕ) (h : i < entries list) where
    none_yet : (n : ℕ) → n ≤ i → Alone list i n ZERO 0
    unfolding sum_of count_of
    none_yet zero l = record { adds = refl; counts = refl }
    none_yet (suc n) l =
        let a = none_yet n (omega arith) in
        let e = ne_eqb (language_at list n) (language_at list i) (r.differ n i (omega arith) h) in
        record { adds = rw e a.adds; counts = rw e a.counts }

    alone : (n : ℕ) → i < n → n ≤ entries list → Alone list i n (ZERO ⊕ score_at list i) 1
    unfolding sum_of count_of
    alone zero l m = absurd (omega arith)
    alone (suc n) l m =
        split i n
        (λ k. let a = alone n k (omega arith) in
        let e = ne_eqb (language_at list n) (language_at list i) (λ (s : language_at list n ≡ language_at list i). r.differ i n k m (sym s)) in
        record { adds = rw e a.adds; counts = rw e a.counts })
        (λ k. let s : n ≡ i = omega arith in
        let a = none_yet n k in
        let e = eq-eqb (language_at list n) (language_at list i) (ap (language_at list) s) in
        record { adds = rw (e, a.adds) (ap (λ (z : ℕ). ZERO ⊕ score_at list z) s); counts = rw (e, a.counts) })

    pub one_mean : mean_at list i ≡ score_at list i
    unfolding mean
    one_mean =
        let a = alone (entries list) h (le_refl (entries list)) in
        rw (a.adds, a.counts) (score_own (get_or list (i * 2 + 1) 0) (r.plus i h) (r.good.scored i h))

    one_bits : bits_of (mean_at list i) ≡ get_or list (i * 2 + 1) 0
    one_bits = ap bits_of one_mean ∙ bits_back (get_or list (i * 2 + 1) 0) (r.plus i h) (r.good.scored i h)

    one_first : is_first list i ≡ true
    unfolding is_first
    one_first = eq-eqb _ _ (first_none (λ k. eqb (language_at list k) (language_at list i)) i (λ k l. ne_eqb (language_at list k) (language_at list i) (r.differ k i l h)))

  words_more : (l : List ℕ) (i : ℕ) → words_of list (l ++ (i ∷ [])) ≡ words_of list l ++ (language_at list i ∷ bits_of (mean_at list i) ∷ [])
  unfolding words_of
  words_more [] i = refl
  words_more (x ∷ l) i = ap (λ (z : List ℕ). language_at list x ∷ bits_of (mean_at list x) ∷ z) (words_more l i)

  take_two : (k : ℕ) → k < entries list → take ((k + 1) * 2) list ≡ take (k * 2) list ++ (language_at list k ∷ get_or list (k * 2 + 1) 0 ∷ [])
  take_two k h =
      let two : (k + 1) * 2 ≡ suc (suc (k * 2)) = omega arith in
      let one : suc (k * 2) ≡ k * 2 + 1 = omega arith in
      ap (λ (z : ℕ). take z list) two
      ∙ take-suc list (suc (k * 2)) 0 (omega arith)
      ∙ ap (λ (z : List ℕ). z ++ (get_or list (suc (k * 2)) 0 ∷ [])) (take-suc list (k * 2) 0 (omega arith))
      ∙ append_assoc (take (k * 2) list) (language_at list k ∷ []) (get_or list (suc (k * 2)) 0 ∷ [])
      ∙ ap (λ (z : ℕ). take (k * 2) list ++ (language_at list k ∷ get_or list z 0 ∷ [])) one

  all_words : (k : ℕ) → k ≤ entries list → words_of list (passing (is_first list) k) ≡ take (k * 2) list
  unfolding words_of
  all_words zero h = rw (chosen_none (is_first list))
  all_words (suc k) h =
      let more : passing (is_first list) (k + 1) ≡ passing (is_first list) k ++ (k ∷ []) = chosen_more (is_first list) k ∙ rw (one_first k h) in
      rw (← add-one k)
      (ap (words_of list) more ∙ words_more (passing (is_first list) k) k
      ∙ rw (all_words k (omega arith), one_bits k h) (sym (take_two k h)))

  -- "the merge of one ranking is that ranking": where it does not rise
  module _ (falls : (i k : ℕ) → i < k → k < entries list → lt (score_at list i) (score_at list k) ≡ false) where
    stays : (i k : ℕ) → i < k → k < entries list → stands_before (mean_at list) i k ≡ true
    unfolding stands_before
    stays i k l h = rw (one_mean i (omega arith), one_mean k h, falls i k l h, lt-ltb i k l) (or_true (lt (score_at list k) (score_at list i)))
      where
        or_true : (b : Bool) → (b || true) ≡ true
        or_true true = refl
        or_true false = refl

    pub one_order : merged list ≡ firsts list
    unfolding merged firsts
    one_order =
        in_order_same (stands_before (mean_at list)) (firsts list) (chosen_up (is_first list) (entries list))
        (λ i k m n l. stays i k l (chosen_in (is_first list) (entries list) k n).0)

    pub one_words : entries list * 2 ≡ length list → merged_words list ≡ list
    unfolding firsts
    one_words e = ap (words_of list) one_order ∙ all_words (entries list) (le_refl (entries list)) ∙ ap (λ (z : ℕ). take z list) e ∙ take_all (length list) list (le_refl (length list))
