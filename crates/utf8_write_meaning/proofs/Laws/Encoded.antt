-- Texts of scalar values and their encodings from a place on: a text has scalar values only exactly if no number is ill (`none_ill`, `some_ill`,
-- `all_good`), and so has each part of it (`scalars_part`); what a text's encoding is past one code point (`encoded_next`), past a run of ASCII
-- (`encoded_run`) and past any part (`encoded_part`). Assumes nothing.
use Prim.Native.Nat.{ℕ, zero, suc, ◌+◌, ◌-◌, ◌≤◌, ◌<◌}
use mathlib.Core.Path.{◌≡◌, refl, sym, ap, ◌∙◌}
use mathlib.Core.List.{List, [], ◌∷◌, ◌++◌, append_assoc}
use mathlib.Core.Bool.{Bool, true, false, not, ◌&&◌}
use native.Mathlib.Numerals.{add-one}
use native.Mathlib.Omega.{arith}
use lib.ListN.{length, get_or, take, drop, length-append, length-drop, take-append-drop}
use lib.Seq.{drop-cons, drop-drop, get_or-drop, get_or-take, length-take-le}
use borrow.Author.Tests.{not-false}
use Rattle.base.specs.First.{first}
use Rattle.base.specs.Tests.{scalar}
use Rattle.base.proofs.Laws.First.{first_before, first_none, first_within}
use Rattle.base.proofs.Laws.Tests.{by_bool, split, and_l, and_r}
use Rattle.utf8_meaning.specs.Inner.Ascii.{AsciiRun}
use Rattle.utf8_table.specs.Encoding.{encode, encode_all, scalars}
use Rattle.utf8_table.proofs.Laws.Encoding.{encode_1}
use Rattle.utf8_write_meaning.specs.Answer.{ill_at}

each_scalar : (cs : List ℕ) → ((j : ℕ) → j < length cs → scalar (get_or cs j 0) ≡ true) → scalars cs ≡ true
unfolding scalars
each_scalar [] h = refl
each_scalar (c ∷ cs) h = rw (h 0 (omega arith)) (each_scalar cs (λ j l. h (suc j) (omega arith)))

pub scalar_at : (cs : List ℕ) → scalars cs ≡ true → (j : ℕ) → j < length cs → scalar (get_or cs j 0) ≡ true
unfolding scalars
scalar_at [] s j h = absurd (no h)
  where
    no : j < 0 → ⊥
    no h = omega arith
scalar_at (c ∷ cs) s zero h = and_l (scalar c) (scalars cs) s
scalar_at (c ∷ cs) s (suc j) h = scalar_at cs (and_r (scalar c) (scalars cs) s) j (omega arith)

module _ (text : List ℕ) where
  pub none_ill : length text ≤ ill_at text → scalars text ≡ true
  unfolding ill_at
  none_ill h =
      each_scalar text (λ j l. not-false _ (first_before (λ i. not (scalar (get_or text i 0))) (length text) j (omega arith)))

  pub all_good : scalars text ≡ true → ill_at text ≡ length text
  unfolding ill_at
  all_good s = first_none (λ i. not (scalar (get_or text i 0))) (length text) (λ j h. ap not (scalar_at text s j h))

  pub some_ill : scalars text ≡ false → ill_at text < length text
  some_ill s = split (ill_at text) (length text) (λ h. h) (λ h. absurd (no (sym (none_ill h) ∙ s)))
    where
      told : true ≡ false → ◌≡◌ {A = ℕ} 0 1
      told e = cc

      no : true ≡ false → ⊥
      no e = let z = told e in omega arith

  pub ill_within : ill_at text ≤ length text
  unfolding ill_at
  ill_within = first_within _ (length text)

  module _ (i : ℕ) where
    next : i < length text → drop i text ≡ get_or text i 0 ∷ drop (i + 1) text
    next h = drop-cons text i 0 h ∙ ap (λ (k : ℕ). get_or text i 0 ∷ drop k text) (sym (add-one i))

    pub scalars_next : i < length text → scalars (drop i text) ≡ (scalar (get_or text i 0) && scalars (drop (i + 1) text))
    unfolding scalars
    scalars_next h = rw (next h)

    pub encoded_next : i < length text → encode_all (drop i text) ≡ encode (get_or text i 0) ++ encode_all (drop (i + 1) text)
    unfolding encode_all
    encoded_next h = rw (next h)

whole : (c : ℕ) (l : List ℕ) → encode_all (c ∷ l) ≡ encode c ++ encode_all l
unfolding encode_all
whole c l = refl

-- the encoding of ASCII code points is these numbers
ascii_encoded : (k : ℕ) (l : List ℕ) → k ≤ length l → ((j : ℕ) → j < k → get_or l j 0 < 0x80) → encode_all l ≡ take k l ++ encode_all (drop k l)
ascii_encoded zero l h a = refl
ascii_encoded (suc k) [] h a = absurd (no h)
  where
    no : suc k ≤ 0 → ⊥
    no h = omega arith
ascii_encoded (suc k) (c ∷ l) h a =
    whole c l
    ∙ rw (encode_1 c (a 0 (omega arith))) (ap (λ (z : List ℕ). c ∷ z) (ascii_encoded k l (omega arith) (λ j m. a (suc j) (omega arith))))

pub encoded_run : (text : List ℕ) (i j : ℕ) → AsciiRun text i j → encode_all (drop i text) ≡ take (j - i) (drop i text) ++ encode_all (drop j text)
encoded_run text i j r =
    let e : i + (j - i) ≡ j = omega (arith, r.here) in
    let a = ascii_encoded (j - i) (drop i text) (omega (arith, length-drop i text, r.inside))
    (λ m h. rw (get_or-drop i text m 0) (r.ascii (i + m) (omega arith) (omega arith))) in
    a ∙ ap (λ (z : List ℕ). take (j - i) (drop i text) ++ encode_all z) (drop-drop (j - i) i text ∙ ap (λ (k : ℕ). drop k text) e)

-- the encoding of two texts in a row
encoded_both : (a b : List ℕ) → encode_all (a ++ b) ≡ encode_all a ++ encode_all b
unfolding encode_all
encoded_both [] b = refl
encoded_both (c ∷ a) b = ap (λ (z : List ℕ). encode c ++ z) (encoded_both a b) ∙ sym (append_assoc (encode c) (encode_all a) (encode_all b))

module _ (text : List ℕ) (i j : ℕ) (h : i ≤ j) where
  pub encoded_part : encode_all (drop i text) ≡ encode_all (take (j - i) (drop i text)) ++ encode_all (drop j text)
  encoded_part =
      let e : i + (j - i) ≡ j = omega arith in
      ap encode_all (sym (take-append-drop (j - i) (drop i text)))
      ∙ encoded_both (take (j - i) (drop i text)) (drop (j - i) (drop i text))
      ∙ ap (λ (z : List ℕ). encode_all (take (j - i) (drop i text)) ++ encode_all z) (drop-drop (j - i) i text ∙ ap (λ (k : ℕ). drop k text) e)

  pub scalars_part : j ≤ length text → scalars text ≡ true → scalars (take (j - i) (drop i text)) ≡ true
  scalars_part l s =
      let n : length (take (j - i) (drop i text)) ≡ j - i = length-take-le (j - i) (drop i text) (omega (arith, length-drop i text)) in
      each_scalar (take (j - i) (drop i text))
      (λ k m. rw (get_or-take (j - i) (drop i text) k 0 (omega (arith, m, n)), get_or-drop i text k 0) (scalar_at text s (i + k) (omega (arith, m, n))))
