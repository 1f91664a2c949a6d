-- Laws of the two tables that a call lays out: what is looked up in them is what the page says (`unused_is`, `points_are`, `lacking_is`,
-- `bytes_are`). Assumes nothing.
use Prim.Native.Nat.{ℕ, ◌-◌, ◌≤◌, ◌<◌}
use mathlib.Core.Path.{◌≡◌, refl, sym, ap, ◌∙◌}
use mathlib.Core.Logic.{◌≢◌}
use mathlib.Core.Bool.{Bool, true, false, cond, not, ◌&&◌, ◌||◌}
use mathlib.Core.List.{List, map}
use native.Mathlib.Omega.{arith}
use lib.ListN.{length, get_or, take}
use lib.Seq.{take-length}
use lib.Dec.{eqb, leb}
use borrow.Author.Tests.{eq-eqb, ne_eqb, eqb-true, eqb-false, leb-true, leb-false, le-leb, lt-leb}
use Rattle.base.specs.Among.{among}
use Rattle.base.specs.First.{first}
use Rattle.base.proofs.Laws.First.{first_before, first_none}
use Rattle.base.proofs.Laws.Tests.{by_bool, split}
use Rattle.page_meaning.specs.Page.{PAGE_ENTRIES, BYTES, UNUSED, FIRST_HIGH, entry, point_of, byte_of, lacks, unused_at, lacking_at, points_of, bytes_of}
use Rattle.page_meaning.specs.Inner.Good.{Good}
use Rattle.page_meaning.specs.Inner.Tables.{Points, Inverse, looked, first_unused, lacking, first_lacking}
use Rattle.page_meaning.proofs.Laws.Lists.{get_d_any, get_d_past, first_same, map_same, among_before}
use Rattle.page_meaning.proofs.Laws.Page.{point_low, point_high, used_has, has_used, point_of_byte}

-- every number of a list is below a bound: what a slice of u8, u16 or u32 brings with it
abbrev pub Below : ℕ → List ℕ → Type 0
Below n l = (i : ℕ) → i < length l → get_or l i 0 < n

module _ (page points bytes : List ℕ) (laid : Points page points) (small : Below BYTES bytes) where
  pub unused_is : first_unused points bytes ≡ unused_at page bytes
  unfolding first_unused unused_at
  unused_is = first_same _ _ (length bytes) (λ i h. rw (laid (get_or bytes i 0) (small i h)))

  pub points_are : looked points bytes ≡ points_of page bytes
  points_are = map_same (λ x. get_or points x 0) (point_of page) 0 bytes (λ i h. laid (get_or bytes i 0) (small i h))

-- where no entry is unused, no byte is
pub none_unused_at : (page bytes : List ℕ) → length page ≡ PAGE_ENTRIES → Below BYTES bytes → among UNUSED page ≡ false → length bytes ≡ unused_at page bytes
unfolding unused_at
none_unused_at page bytes s small none =
    sym (first_none _ (length bytes) (λ i h. ne_eqb (point_of page (get_or bytes i 0)) UNUSED (used (get_or bytes i 0) (small i h))))
  where
    stands : (k : ℕ) → k < length page → entry page k ≡ UNUSED → ⊥
    stands k h e =
        let a : among (entry page k) (take (length page) page) ≡ true = among_before page (length page) k UNUSED h h in
        let t : true ≡ false = sym (rw (e, take-length) at a) ∙ none in
        let z : ◌≡◌ {A = ℕ} 0 1 = cc in
        omega arith

    used : (b : ℕ) → b < BYTES → point_of page b ≡ UNUSED → ⊥
    used b h e =
        split b FIRST_HIGH
        (λ l. let x = point_low page b l in omega arith)
        (λ l. stands (b - FIRST_HIGH) (omega arith) (sym (point_high page b l) ∙ e))

-- no entry of a u16 page is past FFFF, so that the page lacks everything past it
module _ (page : List ℕ) (words : Below 0x10000 page) where
  pub point_word : (b : ℕ) → point_of page b ≤ UNUSED
  point_word b =
      split b FIRST_HIGH
      (λ h. rw (point_low page b h) (omega arith))
      (λ h. rw (point_high page b h)
      (split (b - FIRST_HIGH) (length page)
      (λ l. let w = words (b - FIRST_HIGH) l in rw (get_d_any page (b - FIRST_HIGH) UNUSED 0 l) (omega arith))
      (λ l. rw (get_d_past page (b - FIRST_HIGH) UNUSED l) (omega arith))))

  pub has_small : (p : ℕ) → lacks page p ≡ false → p < UNUSED
  has_small p e =
      let w : p ≤ UNUSED = rw (point_of_byte page p e) at (point_word (byte_of page p)) in
      split p UNUSED (λ l. l) (λ l. absurd (has_used page p e (omega arith)))

  pub past_lacks : (p : ℕ) → UNUSED ≤ p → lacks page p ≡ true
  past_lacks p h = by_bool (lacks page p) (λ e. e) (λ e. let l = has_small p e in absurd (omega arith))

  -- a text of which the page lacks nothing
  module _ (text : List ℕ) (none : length text ≤ lacking_at page text) where
    all_has : (i : ℕ) → i < length text → lacks page (get_or text i 0) ≡ false
    unfolding lacking_at
    all_has i h = first_before (λ i. lacks page (get_or text i 0)) (length text) i (omega arith)

    pub text_small : (i : ℕ) → i < length text → get_or text i 0 < UNUSED
    text_small i h = has_small (get_or text i 0) (all_has i h)

module _ (page : List ℕ) (g : Good page) where
  zero_has : lacks page 0 ≡ false
  zero_has =
      let e = point_low page 0 (omega arith) in
      rw e at (used_has page g 0 (λ z. omega arith))

module _ (page inverse : List ℕ) (g : Good page) (words : Below 0x10000 page) (laid : Inverse page inverse) where
  below_is : (p : ℕ) → p < UNUSED → (eqb (get_or inverse p 0) 0 && not (eqb p 0)) ≡ lacks page p
  below_is p h =
      by_bool (lacks page p)
      (λ e. let v : get_or inverse p 0 ≡ 0 = laid p h ∙ rw e in
      let n : p ≡ 0 → ⊥ = λ z. let y : true ≡ false = sym e ∙ ap (lacks page) z ∙ zero_has page g in
      let x : ◌≡◌ {A = ℕ} 0 1 = cc in omega arith in
      rw (e, v, ne_eqb p 0 n))
      (λ e. let v : get_or inverse p 0 ≡ byte_of page p = laid p h ∙ rw e in
      by_bool (eqb p 0)
      (λ z. rw (e, z) (and_no (eqb (get_or inverse p 0) 0)))
      (λ z. let n : byte_of page p ≡ 0 → ⊥ = λ y. eqb-false p 0 z (sym (point_of_byte page p e) ∙ ap (point_of page) y ∙ point_low page 0 (omega arith)) in
      rw (e, v, ne_eqb (byte_of page p) 0 n)))
    where
      and_no : (a : Bool) → (a && false) ≡ false
      and_no true = refl
      and_no false = refl

  pub lacking_is : (p : ℕ) → lacking inverse p ≡ lacks page p
  unfolding lacking
  lacking_is p =
      split p UNUSED
      (λ h. rw (lt-leb UNUSED p h) (below_is p h))
      (λ h. rw (le-leb UNUSED p h, past_lacks page words p h))

  pub lacking_at_lem : (text : List ℕ) → first_lacking inverse text ≡ lacking_at page text
  unfolding first_lacking lacking_at
  lacking_at_lem text = first_same _ _ (length text) (λ i h. lacking_is (get_or text i 0))

  pub bytes_are : (text : List ℕ) → length text ≤ lacking_at page text → looked inverse text ≡ bytes_of page text
  bytes_are text none =
      map_same (λ x. get_or inverse x 0) (byte_of page) 0 text
      (λ i h. laid (get_or text i 0) (text_small page words text none i h) ∙ rw (all_has page words text none i h))
