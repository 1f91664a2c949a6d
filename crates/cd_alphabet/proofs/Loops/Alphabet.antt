-- Laws of a share: the distinct letters are those of the alphabet; it is at most 1 over at most as many letters as the alphabet has, and over none only where that is empty; and the counting of
-- its letters under way (`Counting`).
-- Assumes nothing.
use Prim.Native.Nat.{ℕ, ◌+◌, ◌-◌, ◌≤◌, ◌<◌}
use mathlib.Core.Path.{◌≡◌, refl, ◌∙◌}
use mathlib.Core.Bool.{Bool, true, false, cond, not, ◌&&◌, ◌||◌}
use mathlib.Core.List.{List, [], ◌∷◌}
use native.Mathlib.Numerals.{add-one}
use native.Mathlib.Nat.{le_refl}
use native.Mathlib.Omega.{arith}
use lib.ListN.{length, get_or, take, drop, drop_of_length-le, length-drop}
use lib.Seq.{drop-cons, take_all}
use lib.Dec.{eqb}
use borrow.Author.Tests.{eqb-true}
use Rattle.base.specs.Limits.{LANGUAGE_LETTERS}
use Rattle.base.specs.Numbers.{bump}
use Rattle.base.proofs.Laws.Numbers.{bump_small}
use Rattle.base.specs.Inner.Numbers.{One}
use Rattle.base.specs.Among.{among}
use Rattle.ratio.specs.Inner.Fraction.{MOST_NUM, MOST_DEN, Small}
use Rattle.ratio.specs.declared.Fraction.{Fraction}
use Rattle.cd_alphabet.specs.Alphabet.{distinct, shared, alphabet_share}

-- how many distinct letters there are, and how many of them the layer has
abbrev letters : List ℕ → ℕ
letters l = length (distinct l)

abbrev common : List ℕ → List ℕ → ℕ
common layer l = length (shared layer (distinct l))

-- a letter is counted where it stands last
letters_more : (x : ℕ) (l : List ℕ) → letters (x ∷ l) ≡ bump (not (among x l)) + letters l
unfolding distinct
letters_more x l = go (among x l)
  where
    go : (b : Bool) → length (cond b (distinct l) (x ∷ distinct l)) ≡ bump (not b) + length (distinct l)
    go true = omega arith
    go false = omega arith

common_more : (layer : List ℕ) (x : ℕ) (l : List ℕ) → common layer (x ∷ l) ≡ bump (not (among x l) && among x layer) + common layer l
unfolding distinct shared
common_more layer x l = go (among x l) (among x layer)
  where
    one : (b : Bool) (m : List ℕ) → length (cond b (x ∷ m) m) ≡ bump b + length m
    one true m = omega arith
    one false m = omega arith

    go : (b d : Bool) → length (shared layer (cond b (distinct l) (x ∷ distinct l))) ≡ bump (not b && among x layer) + length (shared layer (distinct l))
    go true d = omega arith
    go false d = one (among x layer) (shared layer (distinct l))

shared_few : (layer l : List ℕ) → length (shared layer l) ≤ length l
unfolding shared
shared_few layer [] = le_refl 0
shared_few layer (x ∷ l) = go (among x layer) (shared_few layer l)
  where
    go : (b : Bool) → length (shared layer l) ≤ length l → length (cond b (x ∷ shared layer l) (shared layer l)) ≤ length (x ∷ l)
    go true h = omega arith
    go false h = omega arith

distinct_length : (l : List ℕ) → letters l ≤ length l
unfolding distinct
distinct_length [] = le_refl 0
distinct_length (x ∷ l) = omega (arith, letters_more x l, bump_small (not (among x l)), distinct_length l)

-- a list that is not empty has a letter that stands last
distinct_some : (l : List ℕ) → 0 < length l → 0 < letters l
unfolding distinct among
distinct_some [] h = h
distinct_some (x ∷ []) h = omega arith
distinct_some (x ∷ y ∷ l) h = omega (arith, letters_more x (y ∷ l), distinct_some (y ∷ l) (omega arith))

-- the distinct letters are the letters of the list
pub distinct_among : (x : ℕ) (l : List ℕ) → among x (distinct l) ≡ among x l
unfolding distinct among
distinct_among x [] = refl
distinct_among x (y ∷ l) = go (among y l) (eqb y x) refl refl (distinct_among x l)
  where
    go : (b e : Bool) → among y l ≡ b → eqb y x ≡ e → among x (distinct l) ≡ among x l
        → among x (cond b (distinct l) (y ∷ distinct l)) ≡ (e || among x l)
    go true true p q h = let z : y ≡ x = eqb-true y x q in h ∙ (rw z at p)
    go true false p q h = h
    go false true p q h = rw q
    go false false p q h = rw q h

pub share_most : (layer l : List ℕ) → (alphabet_share layer l).num ≤ (alphabet_share layer l).den
unfolding alphabet_share
share_most layer l = shared_few layer (distinct l)

pub share_over : (layer l : List ℕ) → (alphabet_share layer l).den ≤ length l
unfolding alphabet_share
share_over layer l = distinct_length l

pub share_some : (layer l : List ℕ) → 0 < length l → 0 < (alphabet_share layer l).den
unfolding alphabet_share
share_some layer l h = distinct_some l h

pub share_small : (layer l : List ℕ) → length l ≤ LANGUAGE_LETTERS → Small (alphabet_share layer l)
share_small layer l h =
    record {
      num = small_num (alphabet_share layer l).num (omega (arith, share_most layer l, share_over layer l));
      den = small_den (alphabet_share layer l).den (omega (arith, share_over layer l));
    }
  where
    small_num : (n : ℕ) → n ≤ LANGUAGE_LETTERS → n ≤ MOST_NUM
    small_num n h = omega arith

    small_den : (n : ℕ) → n ≤ LANGUAGE_LETTERS → n ≤ MOST_DEN
    small_den n h = omega arith

-- the letters past i
abbrev after : List ℕ → ℕ → List ℕ
after l i = take (length l - (i + 1)) (drop (i + 1) l)

after_drop : (l : List ℕ) (i : ℕ) → after l i ≡ drop (i + 1) l
after_drop l i = take_all (length l - (i + 1)) (drop (i + 1) l) (omega (arith, length-drop (i + 1) l))

-- the count before i, and what is left from i on
pub record Counting (layer l : List ℕ) (num den i : ℕ) : Type 0 where
  pub below : i ≤ length l
  pub few : den ≤ i
  pub less : num ≤ i
  pub top : num + length (shared layer (distinct (drop i l))) ≡ length (shared layer (distinct l))
  pub under : den + length (distinct (drop i l)) ≡ length (distinct l)

module _ (layer l : List ℕ) where
  pub counting_start : Counting layer l 0 0 0
  counting_start =
      record { below = omega arith; few = omega arith; less = omega arith; top = omega arith; under = omega arith }

  module _ {num den i : ℕ} (g : Counting layer l num den i) where
    pub counting_more : i < length l → (s d : ℕ)
        → One (not (among (get_or l i 0) (after l i)) && among (get_or l i 0) layer) s
        → One (not (among (get_or l i 0) (after l i))) d
        → Counting layer l (num + s) (den + d) (i + 1)
    counting_more h s d p' q' =
        let p : One (not (among (get_or l i 0) (drop (i + 1) l)) && among (get_or l i 0) layer) s = rw (after_drop l i) at p' in
        let q : One (not (among (get_or l i 0) (drop (i + 1) l))) d = rw (after_drop l i) at q' in
        let e : drop i l ≡ get_or l i 0 ∷ drop (i + 1) l = drop-cons l i 0 h ∙ rw (add-one i) in
        let t : num + common layer (get_or l i 0 ∷ drop (i + 1) l) ≡ common layer l = rw e at g.top in
        let u : den + letters (get_or l i 0 ∷ drop (i + 1) l) ≡ letters l = rw e at g.under in
        record {
          below = omega arith;
          few = omega (arith, g.few, q.small);
          less = omega (arith, g.less, p.small);
          top = omega (arith, t, p.is, common_more layer (get_or l i 0) (drop (i + 1) l));
          under = omega (arith, u, q.is, letters_more (get_or l i 0) (drop (i + 1) l));
        }

    pub counting_end : length l ≤ i → ◌≡◌ {A = Fraction} (record { num = num; den = den }) (alphabet_share layer l)
    unfolding alphabet_share shared distinct
    counting_end h =
        let t : num + 0 ≡ common layer l = rw (drop_of_length-le l h) at g.top in
        let u : den + 0 ≡ letters l = rw (drop_of_length-le l h) at g.under in
        let a : num ≡ common layer l = omega arith in
        let b : den ≡ letters l = omega arith in
        rw (a, b)
