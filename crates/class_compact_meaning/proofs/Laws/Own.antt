-- The letters that are (0, 0) or a repeat: what each way of the code to tell it answers.
-- Assumes nothing.
use Prim.Native.Nat.{ℕ, ◌+◌, ◌≤◌, ◌<◌}
use mathlib.Core.Path.{◌≡◌, refl, sym, ◌∙◌}
use mathlib.Core.Bool.{Bool, true, false, ◌&&◌, ◌||◌}
use mathlib.Core.List.{List}
use native.Mathlib.Omega.{arith}
use lib.ListN.{get_or, set, replicate}
use lib.Dec.{eqb, ltb}
use borrow.Author.Tests.{eqb-false, eq-eqb, ne_eqb, le-ltb, lt-ltb}
use Rattle.base.specs.First.{first, each}
use Rattle.base.specs.Limits.{MOST_CLASSES}
use Rattle.base.proofs.Laws.First.{first_within, each_at, each_more}
use Rattle.base.proofs.Laws.Tests.{by_bool, split, and_yes}
use Rattle.class_compact_meaning.specs.Form.{compact_records, letters_in, place_at, base_at, lower_at}
use Rattle.class_compact_meaning.specs.Check.{no_letters, letters_are, repeated, unused, early, bad_letters, first_use}
use Rattle.class_compact_meaning.specs.Inner.Links.{LINKS, Linked, Slot}
use Rattle.class_compact_meaning.specs.Inner.Sound.{is_own, all_own, Own, Use, Told}
use Rattle.class_compact_meaning.proofs.Laws.Firsts.{clash, or_no_l}
use Rattle.class_compact_meaning.proofs.Laws.Links.{linked_start, linked_more}

module _ (l : List ℕ) (k base lower : ℕ) (b : base ≡ base_at l k) (w : lower ≡ lower_at l k) where
  pub own_none : (eqb base 0 && eqb lower 0) ≡ true → false ≡ is_own l k
  unfolding is_own no_letters
  own_none h = let z : (eqb (base_at l k) 0 && eqb (lower_at l k) 0) ≡ true = rw (b, w) at h in rw z

  module _ (h : (eqb base 0 && eqb lower 0) ≡ false) where
    some : no_letters l k ≡ false
    unfolding no_letters
    some = rw (b, w) at h

    pub own_found : (found : ℕ) → found ≡ first (letters_are l base lower) k → eqb found k ≡ is_own l k
    unfolding is_own repeated
    own_found found e =
        let f : found ≡ first (letters_are l (base_at l k) (lower_at l k)) k = rw (b, w) at e in
        let m : found ≤ k = rw f (first_within (letters_are l (base_at l k) (lower_at l k)) k) in
        rw (some, ← f) (split found k
        (λ a. rw (lt-ltb found k a) (ne_eqb found k (λ z. omega arith)))
        (λ a. rw (le-ltb found k a) (eq-eqb found k (omega arith))))

    pub own_again : (links : List ℕ) (slot : ℕ) → Slot l k base lower links slot → (get_or links slot 0 ≡ 0 → ⊥) → get_or links slot 0 ≤ k → false ≡ is_own l k
    own_again links slot s a h = let z = s.some a in sym (ne_eqb _ k (λ e. omega arith)) ∙ own_found _ refl

    pub own_free : (links : List ℕ) (slot : ℕ) → Slot l k base lower links slot → get_or links slot 0 ≡ 0 → true ≡ is_own l k
    own_free links slot s a = sym (eq-eqb _ k (s.none a)) ∙ own_found _ refl

  pub own_linked : (links : List ℕ) (slot : ℕ) → Linked l k links → k < MOST_CLASSES → k < letters_in l → Slot l k base lower links slot
      → get_or links slot 0 ≡ 0 → Linked l (k + 1) (set links slot (k + 1))
  own_linked links slot h a c s e = linked_more l links k slot h a c (rw (b, w) at s.walked) e

-- all of them
pub record Owning (l : List ℕ) (links : List ℕ) (k : ℕ) : Type 0 where
  pub below : k ≤ letters_in l
  pub linked : Linked l k links
  pub all : each (is_own l) k ≡ true

module _ (l : List ℕ) where
  pub owning_start : Owning l (replicate LINKS 0) 0
  unfolding each
  owning_start = record { below = omega arith; linked = linked_start l; all = refl }

  module _ (links : List ℕ) (k : ℕ) (o : Owning l links k) where
    pub owning_more : (own : Bool) (more : List ℕ) → k < letters_in l → Own l k own more → own ≡ true → Owning l more (k + 1)
    owning_more own more h e y =
        record {
          below = omega arith;
          linked = e.linked y;
          all = sym (each_more (is_own l) k) ∙ and_yes o.all (sym e.is ∙ y);
        }

    pub owning_end : letters_in l ≤ k → true ≡ all_own l
    unfolding all_own
    owning_end h = let z : k ≡ letters_in l = omega (arith, o.below) in sym (rw z at o.all)

  pub owning_fails : (k : ℕ) → k < letters_in l → is_own l k ≡ false → false ≡ all_own l
  unfolding all_own
  owning_fails k h e = by_bool (each (is_own l) (letters_in l)) (λ s. clash (each_at (is_own l) (letters_in l) s k h) e) (λ s. sym s)

-- ---- one by one
module _ (c : List ℕ) (k : ℕ) where
  pub early_first : k ≡ 0 → false ≡ early c k
  unfolding early
  early_first e = rw e

  pub early_later : (here next : ℕ) → (k ≡ 0 → ⊥) → here ≡ first_use c (k + 1) → next ≡ first_use c k → ltb here next ≡ early c k
  unfolding early
  early_later here next h e f = let z : ltb 0 k ≡ true = lt-ltb 0 k (omega arith) in rw (z, e, f)

  below : (here : ℕ) → here ≡ first_use c (k + 1) → (here ≡ compact_records c → ⊥) → here < compact_records c
  unfolding first_use
  below here e n = let m : here ≤ compact_records c = rw e (first_within (λ i. eqb (place_at c i) (k + 1)) (compact_records c)) in omega arith

  pub told : (l : List ℕ) (base lower here found : ℕ) (b : Bool) → base ≡ base_at l k → lower ≡ lower_at l k → Use c (k + 1) here
      → found ≡ first (letters_are l base lower) k → b ≡ early c k
      → Told c l k (eqb here (compact_records c) || ((eqb base 0 && eqb lower 0) || (ltb found k || b)))
  unfolding bad_letters unused no_letters repeated
  told l base lower here found b e f u g h =
      record {
        is = rw (h, g, e, f, u.is);
        small = λ z. u.small (below here u.is (eqb-false here (compact_records c) (or_no_l _ _ z)));
      }
