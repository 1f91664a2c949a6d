-- How packing numbers the letters: of the records before i, so many were the first to use theirs (`number_more`, `number_rising`); the letters stand in
-- the list where they were used first (`letters_there`), and nothing else stands in it (`letter_from`); so what is looked for in the list is found at its
-- place (`place_found`), and a record's letters are new exactly where that place is past the list (`new_past`, `old_within`).
-- Assumes nothing.
use Prim.Native.Nat.{ℕ, zero, suc, ◌+◌, ◌-◌, ◌*◌, ◌/◌, ◌≤◌, ◌<◌}
use mathlib.Core.Path.{◌≡◌, refl, sym, ap, ◌∙◌}
use mathlib.Core.Bool.{Bool, true, false, not, ◌&&◌}
use mathlib.Core.List.{List, [], ◌∷◌, ◌++◌}
use native.Mathlib.Numerals.{add-one}
use native.Mathlib.Omega.{arith}
use lib.ListN.{length, get_or, length-append, get_or-append}
use lib.Seq.{get_or-take, get_or-append-add}
use lib.Dec.{eqb}
use borrow.Author.Tests.{eqb-true, eq-eqb, not-true}
use Rattle.base.specs.First.{first}
use Rattle.base.specs.Limits.{CLASS_RECORD}
use Rattle.base.proofs.Laws.First.{first_is, first_none, first_before, first_within}
use Rattle.base.proofs.Laws.Tests.{by_bool, split, and_l, and_r, and_yes}
use Rattle.class_records.specs.Records.{records, record_at}
use Rattle.class_compact_meaning.specs.Form.{LETTERS_RECORD, LETTERS_AT, letters_in, base_at, lower_at, bytes_from, joined}
use Rattle.class_compact_meaning.specs.Check.{letters_are}
use Rattle.class_compact_meaning.specs.Packed.{plain, alike, first_alike, is_new, new_letters, letters_before, packed_place}
use Rattle.class_compact_meaning.specs.Inner.Gathered.{Placed}
use Rattle.class_compact_meaning.proofs.Laws.Firsts.{clash, first_least, first_hits, first_same}
use Rattle.class_compact_meaning.proofs.Laws.Form.{bytes_length, bytes_at, le32_same}

-- equal numbers of two pairs of tests
pub both : (a b x y : ℕ) → (eqb a x && eqb b y) ≡ true → (a ≡ x) × (b ≡ y)
both a b x y h = (eqb-true _ _ (and_l _ (eqb b y) h), eqb-true _ _ (and_r (eqb a x) _ h))

pub both_yes : (a b x y : ℕ) → a ≡ x → b ≡ y → (eqb a x && eqb b y) ≡ true
both_yes a b x y e f = and_yes (eq-eqb _ _ e) (eq-eqb _ _ f)

-- what was looked for stands before the end, or at it
pub found_few : (f : ℕ → Bool) (found count : ℕ) → found ≡ first f count → found ≤ count
found_few f found count e = rw e (first_within f count)

append_nothing : (l : List ℕ) → l ++ [] ≡ l
append_nothing [] = refl
append_nothing (x ∷ l) = ap (λ (m : List ℕ). x ∷ m) (append_nothing l)

module _ (t : List ℕ) where
  -- ---- alike
  pub alike_self : (i : ℕ) → alike t i i ≡ true
  unfolding alike
  alike_self i = both_yes (record_at t i).base (record_at t i).lower (record_at t i).base (record_at t i).lower refl refl

  pub alike_base : (i j : ℕ) → alike t i j ≡ true → (record_at t j).base ≡ (record_at t i).base
  unfolding alike
  alike_base i j h = (both (record_at t j).base (record_at t j).lower (record_at t i).base (record_at t i).lower h).0

  pub alike_lower : (i j : ℕ) → alike t i j ≡ true → (record_at t j).lower ≡ (record_at t i).lower
  unfolding alike
  alike_lower i j h = (both (record_at t j).base (record_at t j).lower (record_at t i).base (record_at t i).lower h).1

  pub alike_of : (i j : ℕ) → (record_at t j).base ≡ (record_at t i).base → (record_at t j).lower ≡ (record_at t i).lower → alike t i j ≡ true
  unfolding alike
  alike_of i j e f = both_yes (record_at t j).base (record_at t j).lower (record_at t i).base (record_at t i).lower e f

  -- the first that uses the letters of the record i
  module _ (i : ℕ) (h : i < records t) where
    pub alike_at : first_alike t i ≤ i
    unfolding first_alike
    alike_at = first_least (alike t i) (records t) i (alike_self i)

    pub alike_first : alike t i (first_alike t i) ≡ true
    unfolding first_alike
    alike_first = first_hits (alike t i) (records t) i h (alike_self i)

    pub alike_not : (j : ℕ) → j < first_alike t i → alike t i j ≡ false
    unfolding first_alike
    alike_not j l = first_before (alike t i) (records t) j l

    -- it is the first that uses its own
    first_own : first_alike t (first_alike t i) ≡ first_alike t i
    unfolding alike first_alike
    first_own =
        first_same (alike t (first_alike t i)) (alike t i) (records t)
        (λ j l. rw (alike_base i (first_alike t i) alike_first, alike_lower i (first_alike t i) alike_first))

    plain_first : plain t (first_alike t i) ≡ plain t i
    unfolding plain
    plain_first = rw (alike_base i (first_alike t i) alike_first, alike_lower i (first_alike t i) alike_first)

    pub first_new : plain t i ≡ false → is_new t (first_alike t i) ≡ true
    unfolding is_new
    first_new e = rw (plain_first, e) (eq-eqb _ _ first_own)

  pub new_own : (i : ℕ) → is_new t i ≡ true → first_alike t i ≡ i
  unfolding is_new
  new_own i h = eqb-true _ _ (and_r (not (plain t i)) _ h)

  pub new_some : (i : ℕ) → is_new t i ≡ true → plain t i ≡ false
  unfolding is_new
  new_some i h = not-true _ (and_l _ (eqb (first_alike t i) i) h)

  -- ---- how many letters there are before a record
  pub before_more : (i : ℕ) → letters_before t (i + 1) ≡ letters_before t i ++ new_letters t i
  unfolding letters_before joined
  before_more i = rw (add-one i)

  module _ (i : ℕ) (e : is_new t i ≡ true) where
    pub letters_new : new_letters t i ≡ bytes_from t (i * CLASS_RECORD + LETTERS_AT) LETTERS_RECORD
    unfolding new_letters
    letters_new = rw e

    pub before_new : letters_before t (i + 1) ≡ letters_before t i ++ bytes_from t (i * CLASS_RECORD + LETTERS_AT) LETTERS_RECORD
    before_new = before_more i ∙ rw letters_new

  pub before_old : (i : ℕ) → is_new t i ≡ false → letters_before t (i + 1) ≡ letters_before t i
  unfolding new_letters
  before_old i e = before_more i ∙ rw e (append_nothing (letters_before t i))

  -- whole letters
  pub before_length : (i : ℕ) → length (letters_before t i) ≡ letters_in (letters_before t i) * LETTERS_RECORD
  unfolding letters_before joined
  before_length zero = refl
  before_length (suc i) =
      by_bool (is_new t i)
      (λ e. whole (letters_before t i) (new_letters t i) (before_length i) (ap length (letters_new i e) ∙ bytes_length t (i * CLASS_RECORD + LETTERS_AT) LETTERS_RECORD))
      (λ e. let z : letters_before t (suc i) ≡ letters_before t i = ap (letters_before t) (sym (add-one i)) ∙ before_old i e in rw z (before_length i))
    where
      whole : (x y : List ℕ) → length x ≡ length x / LETTERS_RECORD * LETTERS_RECORD → length y ≡ LETTERS_RECORD
          → length (x ++ y) ≡ length (x ++ y) / LETTERS_RECORD * LETTERS_RECORD
      whole x y a b = omega (arith, length-append x y)

  pub number_new : (i : ℕ) → is_new t i ≡ true → letters_in (letters_before t (i + 1)) ≡ letters_in (letters_before t i) + 1
  number_new i e =
      rw (before_new i e)
      (more (letters_before t i) (bytes_from t (i * CLASS_RECORD + LETTERS_AT) LETTERS_RECORD) (before_length i) (bytes_length t (i * CLASS_RECORD + LETTERS_AT) LETTERS_RECORD))
    where
      more : (x y : List ℕ) → length x ≡ length x / LETTERS_RECORD * LETTERS_RECORD → length y ≡ LETTERS_RECORD
          → length (x ++ y) / LETTERS_RECORD ≡ length x / LETTERS_RECORD + 1
      more x y a b = omega (arith, length-append x y)

  pub number_old : (i : ℕ) → is_new t i ≡ false → letters_in (letters_before t (i + 1)) ≡ letters_in (letters_before t i)
  number_old i e = ap letters_in (before_old i e)

  pub number_none : letters_in (letters_before t 0) ≡ 0
  unfolding letters_before joined
  number_none = refl

  number_step : (i : ℕ) → letters_in (letters_before t i) ≤ letters_in (letters_before t (i + 1))
  number_step i =
      by_bool (is_new t i)
      (λ e. let z = number_new i e in omega arith)
      (λ e. let z = number_old i e in omega arith)

  rising : (i k : ℕ) → letters_in (letters_before t i) ≤ letters_in (letters_before t (i + k))
  rising i zero = let e : i + 0 ≡ i = omega arith in rw e (same (letters_in (letters_before t i)))
    where
      same : (n : ℕ) → n ≤ n
      same n = omega arith
  rising i (suc k) =
      let e : i + suc k ≡ i + k + 1 = omega arith in
      rw e (let a = rising i k in let b = number_step (i + k) in omega arith)

  pub number_rising : (i j : ℕ) → i ≤ j → letters_in (letters_before t i) ≤ letters_in (letters_before t j)
  number_rising i j h =
      let e : i + (j - i) ≡ j = omega arith in
      rw e at (rising i (j - i))

  -- a record that was the first to use its letters adds to them
  pub number_past : (f i : ℕ) → is_new t f ≡ true → f < i → letters_in (letters_before t f) + 1 ≤ letters_in (letters_before t i)
  number_past f i e h = let a = number_new f e in let b = number_rising (f + 1) i (omega arith) in omega arith

  pub number_few : (i : ℕ) → letters_in (letters_before t i) ≤ i
  number_few zero = let z = number_none in omega arith
  number_few (suc i) =
      let s : suc i ≡ i + 1 = omega arith in
      let h = number_few i in
      rw s (by_bool (is_new t i) (λ e. let z = number_new i e in omega arith) (λ e. let z = number_old i e in omega arith))

  -- ---- what stands in the list
  abbrev pub before : ℕ → ℕ
  before i = letters_in (letters_before t i)

  -- the bytes of the letters that the record f uses first
  pub bytes_there : (f i : ℕ) → is_new t f ≡ true → f < i → (k : ℕ) → k < LETTERS_RECORD
      → get_or (letters_before t i) (before f * LETTERS_RECORD + k) 0 ≡ get_or t (f * CLASS_RECORD + LETTERS_AT + k) 0
  bytes_there f zero e h k m = absurd (no h)
    where
      no : f < 0 → ⊥
      no a = omega arith
  bytes_there f (suc i) e h k m =
      let s : letters_before t (suc i) ≡ letters_before t i ++ new_letters t i = ap (letters_before t) (sym (add-one i)) ∙ before_more i in
      rw s (split f i
      (λ a. get_or-append (letters_before t i) (new_letters t i) 0 (before f * LETTERS_RECORD + k)
      (omega (arith, number_past f i e a, before_length i))
      ∙ bytes_there f i e a k m)
      (λ a. let z : f ≡ i = omega arith in
      let y : before f * LETTERS_RECORD + k ≡ length (letters_before t i) + k = rw (z, ← before_length i) in
      rw (y, letters_new i (rw z at e)) (get_or-append-add (letters_before t i) (bytes_from t (i * CLASS_RECORD + LETTERS_AT) LETTERS_RECORD) k 0
      ∙ bytes_at t (i * CLASS_RECORD + LETTERS_AT) LETTERS_RECORD k m ∙ rw z)))

  module _ (f i : ℕ) (e : is_new t f ≡ true) (h : f < i) where
    pub base_put : base_at (letters_before t i) (before f) ≡ (record_at t f).base
    unfolding base_at record_at
    base_put =
        let x : before f * LETTERS_RECORD + 0 ≡ before f * LETTERS_RECORD = omega arith in
        let y : f * CLASS_RECORD + LETTERS_AT + 0 ≡ f * CLASS_RECORD + LETTERS_AT = omega arith in
        rw (x, y) at (le32_same (letters_before t i) t (before f * LETTERS_RECORD) (f * CLASS_RECORD + LETTERS_AT) LETTERS_RECORD 0 (omega arith) (bytes_there f i e h))

    pub lower_put : lower_at (letters_before t i) (before f) ≡ (record_at t f).lower
    unfolding lower_at record_at
    lower_put =
        let y : f * CLASS_RECORD + LETTERS_AT + 4 ≡ f * CLASS_RECORD + 20 = omega arith in
        rw y at (le32_same (letters_before t i) t (before f * LETTERS_RECORD) (f * CLASS_RECORD + LETTERS_AT) LETTERS_RECORD 4 (omega arith) (bytes_there f i e h))

  -- the record that used the letters k first
  pub record From (i k : ℕ) : Type 0 where
    pub at : ℕ
    pub below : at < i
    pub new : is_new t at ≡ true
    pub number : before at ≡ k

  pub letter_from : (i k : ℕ) → k < before i → From i k
  letter_from zero k h = absurd (no (number_none) h)
    where
      no : before 0 ≡ 0 → k < before 0 → ⊥
      no a b = omega arith
  letter_from (suc i) k h =
      let s : suc i ≡ i + 1 = omega arith in
      let h' : k < before (i + 1) = rw s at h in
      split k (before i)
      (λ a. let r = letter_from i k a in
      record { at = r.at; below = later i r.at r.below; new = r.new; number = r.number })
      (λ a. by_bool (is_new t i)
      (λ e. record { at = i; below = last i; new = e; number = squeeze (number_new i e) a h' })
      (λ e. absurd (empty (number_old i e) a h')))
    where
      later : (i j : ℕ) → j < i → j < suc i
      later i j h = omega arith

      last : (i : ℕ) → i < suc i
      last i = omega arith

      squeeze : before (i + 1) ≡ before i + 1 → before i ≤ k → k < before (i + 1) → before i ≡ k
      squeeze a b c = omega arith

      empty : before (i + 1) ≡ before i → before i ≤ k → k < before (i + 1) → ⊥
      empty a b c = omega arith

  -- ---- looking for a record's letters among those before it
  module _ (i : ℕ) (h : i < records t) (p : plain t i ≡ false) where
    -- the letters of a record before the first that uses these are others
    others : (k : ℕ) → k < before i → k < before (first_alike t i)
        → letters_are (letters_before t i) (record_at t i).base (record_at t i).lower k ≡ false
    unfolding letters_are
    others k a b =
        by_bool (eqb (base_at (letters_before t i) k) (record_at t i).base && eqb (lower_at (letters_before t i) k) (record_at t i).lower)
        (λ s. let r = letter_from i k a in
        let g : r.at < first_alike t i = earlier r.at r.number in
        let x : base_at (letters_before t i) k ≡ (record_at t r.at).base = ap (base_at (letters_before t i)) (sym r.number) ∙ base_put r.at i r.new r.below in
        let y : lower_at (letters_before t i) k ≡ (record_at t r.at).lower = ap (lower_at (letters_before t i)) (sym r.number) ∙ lower_put r.at i r.new r.below in
        let e = both (base_at (letters_before t i) k) (lower_at (letters_before t i) k) (record_at t i).base (record_at t i).lower s in
        clash (alike_of i r.at (sym x ∙ e.0) (sym y ∙ e.1)) (alike_not i h r.at g))
        (λ s. s)
      where
        earlier : (g : ℕ) → before g ≡ k → g < first_alike t i
        earlier g e = split g (first_alike t i) (λ l. l) (λ l. absurd (no (number_rising (first_alike t i) g l) e))
          where
            no : before (first_alike t i) ≤ before g → before g ≡ k → ⊥
            no x y = omega arith

    pub found_at : first (letters_are (letters_before t i) (record_at t i).base (record_at t i).lower) (before i) ≡ before (first_alike t i)
    unfolding letters_are
    found_at =
        split (first_alike t i) i
        (λ a. let n = first_new i h p in
        first_is _ (before i) (before (first_alike t i)) (let z = number_past (first_alike t i) i n a in omega arith)
        (both_yes _ _ _ _
        (base_put (first_alike t i) i n a ∙ alike_base i (first_alike t i) (alike_first i h))
        (lower_put (first_alike t i) i n a ∙ alike_lower i (first_alike t i) (alike_first i h)))
        (λ k l. others k (let z = number_past (first_alike t i) i n a in omega arith) l))
        (λ a. let z : first_alike t i ≡ i = same (alike_at i h) a in
        rw z (first_none _ (before i) (λ k l. others k l (rw z l))))
      where
        same : first_alike t i ≤ i → i ≤ first_alike t i → first_alike t i ≡ i
        same x y = omega arith

  -- ---- a record's place
  pub place_none : (i : ℕ) → plain t i ≡ true → 0 ≡ packed_place t i
  unfolding packed_place
  place_none i e = rw e

  pub place_some : (i : ℕ) → plain t i ≡ false → packed_place t i ≡ before (first_alike t i) + 1
  unfolding packed_place
  place_some i e = rw e

  pub place_few : (i : ℕ) → i < records t → packed_place t i ≤ before i + 1
  place_few i h =
      by_bool (plain t i)
      (λ e. let z = place_none i e in omega arith)
      (λ e. let z = place_some i e in let y = number_rising (first_alike t i) i (alike_at i h) in omega arith)

  pub new_place : (i : ℕ) → is_new t i ≡ true → packed_place t i ≡ before i + 1
  new_place i e = place_some i (new_some i e) ∙ rw (new_own i e)

  pub new_past : (i : ℕ) → i < records t → before i < packed_place t i → is_new t i ≡ true
  new_past i h l =
      by_bool (plain t i)
      (λ e. absurd (none (place_none i e)))
      (λ e. split (first_alike t i) i
      (λ a. absurd (past (place_some i e) (number_past (first_alike t i) i (first_new i h e) a)))
      (λ a. let z : first_alike t i ≡ i = same (alike_at i h) a in rw z at (first_new i h e)))
    where
      none : 0 ≡ packed_place t i → ⊥
      none z = omega arith

      past : packed_place t i ≡ before (first_alike t i) + 1 → before (first_alike t i) + 1 ≤ before i → ⊥
      past x y = omega arith

      same : first_alike t i ≤ i → i ≤ first_alike t i → first_alike t i ≡ i
      same x y = omega arith

  pub old_within : (i : ℕ) → packed_place t i ≤ before i → is_new t i ≡ false
  old_within i l = by_bool (is_new t i) (λ e. absurd (no (new_place i e))) (λ e. e)
    where
      no : packed_place t i ≡ before i + 1 → ⊥
      no z = omega arith

  -- in the room of letters, whose front they are
  module _ (i count : ℕ) (used links : List ℕ) (g : Placed t i used count links) where
    front : (k : ℕ) → k < count → (j : ℕ) → j < LETTERS_RECORD
        → get_or used (k * LETTERS_RECORD + j) 0 ≡ get_or (letters_before t i) (k * LETTERS_RECORD + j) 0
    front k h j l = sym (get_or-take (count * LETTERS_RECORD) used (k * LETTERS_RECORD + j) 0 (omega arith)) ∙ rw g.so_far

    module _ (k : ℕ) (h : k < count) where
      pub base_front : base_at used k ≡ base_at (letters_before t i) k
      unfolding base_at
      base_front =
          let z : k * LETTERS_RECORD + 0 ≡ k * LETTERS_RECORD = omega arith in
          rw z at (le32_same used (letters_before t i) (k * LETTERS_RECORD) (k * LETTERS_RECORD) LETTERS_RECORD 0 (omega arith) (front k h))

      pub lower_front : lower_at used k ≡ lower_at (letters_before t i) k
      unfolding lower_at
      lower_front = le32_same used (letters_before t i) (k * LETTERS_RECORD) (k * LETTERS_RECORD) LETTERS_RECORD 4 (omega arith) (front k h)

    seen : (base lower : ℕ) → first (letters_are used base lower) count ≡ first (letters_are (letters_before t i) base lower) (before i)
    unfolding letters_are
    seen base lower = rw (← g.number) (first_same _ _ count (λ k h. rw (base_front k h, lower_front k h)))

    pub place_found : (found base lower : ℕ) → plain t i ≡ false → base ≡ (record_at t i).base → lower ≡ (record_at t i).lower
        → found ≡ first (letters_are used base lower) count → found + 1 ≡ packed_place t i
    place_found found base lower p a b e =
        ap (λ (n : ℕ). n + 1) (e ∙ seen base lower ∙ rw (a, b) (found_at i g.inside p)) ∙ sym (place_some i p)
