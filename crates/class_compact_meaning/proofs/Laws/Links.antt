-- Letters that were met are found again: the links at their start (`linked_start`), with letters more (`linked_more`), and read of another list that has
-- the same letters (`linked_same`).
-- Assumes nothing.
use Prim.Native.Nat.{ℕ, zero, suc, ◌+◌, ◌-◌, ◌*◌, ◌≤◌, ◌<◌}
use mathlib.Core.Path.{◌≡◌, refl, ◌∙◌}
use mathlib.Core.List.{List}
use native.Mathlib.Omega.{arith}
use lib.ListN.{length, get_or, set, replicate, length-set, length-replicate, get_or-replicate, get_or-eq_default}
use lib.Seq.{get_or-set_same, get_or-set_other}
use lib.Dec.{eqb}
use borrow.Author.Tests.{eqb-true, eqb-false}
use Rattle.base.specs.Limits.{MOST_CLASSES}
use Rattle.base.proofs.Laws.Tests.{by_bool, split}
use Rattle.class_compact_meaning.specs.Form.{letters_in, base_at, lower_at}
use Rattle.class_compact_meaning.specs.Check.{letters_are}
use Rattle.class_compact_meaning.specs.Inner.Links.{MARKS, LINKS, slot_at, Passed, Held, Linked, Walked}

pub none_below : {A : Type 0} (j : ℕ) → j < 0 → A
none_below j h = absurd (no h)
  where
    no : j < 0 → ⊥
    no a = omega arith

-- ---- nothing linked
abbrev pub zeros : ℕ → List ℕ
zeros n = replicate n 0

pub zeros_length : (n : ℕ) → length (zeros n) ≡ n
zeros_length n = length-replicate {A = ℕ} n 0

blank : (n s : ℕ) → get_or (zeros n) s 0 ≡ 0
blank n s =
    split s n
    (λ h. get_or-replicate n s 0 0 h)
    (λ h. get_or-eq_default (zeros n) 0 (rw (zeros_length n) h))

pub linked_start : (l : List ℕ) → Linked l 0 (replicate LINKS 0)
linked_start l =
    record {
      size = zeros_length LINKS;
      room = omega arith;
      known = omega arith;
      small = λ s. rw (blank LINKS s) (omega arith);
      rising = λ s h. none_below 0 (rw (blank LINKS s) at h);
      held = λ j h. none_below j h;
    }

-- ---- another list with the same letters
module _ (l m : List ℕ) (count : ℕ) (same : (k : ℕ) → k < count → (base_at l k ≡ base_at m k) × (lower_at l k ≡ lower_at m k)) (links : List ℕ)
    (small : (s : ℕ) → get_or links s 0 ≤ count) where
  pub are_same : (base lower k : ℕ) → k < count → letters_are m base lower k ≡ letters_are l base lower k
  unfolding letters_are
  are_same base lower k h = rw ((same k h).0, (same k h).1)

  passed_same : (base lower e : ℕ) → Passed l links base lower e → Passed m links base lower e
  passed_same base lower e p =
      let s = small (slot_at links base lower e) in
      record { some = p.some; other = are_same base lower (get_or links (slot_at links base lower e) 0 - 1) (omega (arith, p.some)) ∙ p.other }

  pub walked_same : (base lower slot : ℕ) → Walked l count base lower links slot → Walked m count base lower links slot
  walked_same base lower slot w =
      record { turns = w.turns; is = w.is; passed = λ e h. passed_same base lower e (w.passed e h); below = w.below }

  held_same : (j : ℕ) → j < count → Held l links j → Held m links j
  held_same j h g =
      record {
        turns = g.turns;
        there = rw (← (same j h).0, ← (same j h).1) g.there;
        passed = λ e i. rw (← (same j h).0, ← (same j h).1) (passed_same (base_at l j) (lower_at l j) e (g.passed e i));
      }

  pub linked_same : count ≤ letters_in m → Linked l count links → Linked m count links
  linked_same h k =
      record { size = k.size; room = k.room; known = h; small = k.small; rising = k.rising; held = λ j i. held_same j i (k.held j i) }

-- ---- a place more
module _ (links : List ℕ) (slot v : ℕ) (free : get_or links slot 0 ≡ 0) where
  -- a slot that has a place keeps it
  kept : (s : ℕ) → 0 < get_or links s 0 → get_or (set links slot v) s 0 ≡ get_or links s 0
  kept s h = get_or-set_other links slot s v 0 (λ e. other (rw e at h))
    where
      other : 0 < get_or links slot 0 → ⊥
      other h = omega arith

  slot_kept : (base lower n : ℕ) → ((e : ℕ) → e < n → 0 < get_or links (slot_at links base lower e) 0)
      → slot_at (set links slot v) base lower n ≡ slot_at links base lower n
  unfolding slot_at
  slot_kept base lower zero h = refl
  slot_kept base lower (suc n) h =
      rw (slot_kept base lower n (λ e i. h e (omega arith)), kept (slot_at links base lower n) (h n (omega arith)))

  module _ (l : List ℕ) (base lower n : ℕ) (h : (e : ℕ) → e < n → Passed l links base lower e) where
    pub place_kept : 0 < get_or links (slot_at links base lower n) 0
        → get_or (set links slot v) (slot_at (set links slot v) base lower n) 0 ≡ get_or links (slot_at links base lower n) 0
    place_kept p = rw (slot_kept base lower n (λ e i. (h e i).some)) (kept (slot_at links base lower n) p)

    pub end_kept : slot_at (set links slot v) base lower n ≡ slot_at links base lower n
    end_kept = slot_kept base lower n (λ e i. (h e i).some)

  pub passed_kept : (l : List ℕ) (base lower n : ℕ) → ((e : ℕ) → e < n → Passed l links base lower e)
      → (e : ℕ) → e < n → Passed l (set links slot v) base lower e
  passed_kept l base lower n h e i =
      let z = place_kept l base lower e (λ a b. h a (omega arith)) (h e i).some in
      record { some = rw z (h e i).some; other = rw z (h e i).other }

-- what holds of a place that is given and of all that were there holds of all
placed : (P : ℕ → ℕ → Type 0) (links : List ℕ) (slot v : ℕ) → slot < length links → P slot v → (s : ℕ) → P s (get_or links s 0) → P s (get_or (set links slot v) s 0)
placed P links slot v h new s old =
    by_bool (eqb s slot)
    (λ e. rw (eqb-true s slot e, get_or-set_same links slot v 0 h) new)
    (λ e. rw (get_or-set_other links slot s v 0 (eqb-false s slot e)) old)

pub linked_more : (l links : List ℕ) (count slot : ℕ) → Linked l count links → count < MOST_CLASSES → count < letters_in l
    → Walked l count (base_at l count) (lower_at l count) links slot → get_or links slot 0 ≡ 0 → Linked l (count + 1) (set links slot (count + 1))
linked_more l links count slot k room known w free =
    record {
      size = length-set links slot (count + 1) ∙ k.size;
      room = omega arith;
      known = omega arith;
      small = λ s. placed (λ s p. p ≤ count + 1) links slot (count + 1) inside (omega arith) s (omega (arith, k.small s));
      rising = λ s. placed (λ s p. 0 < p → s < MARKS + 2 * p) links slot (count + 1) inside (λ h. w.below) s (k.rising s);
      held = λ j h. split j count (old j) (λ i. rw (here j i h) new);
    }
  where
    inside : slot < length links
    inside = omega (arith, k.size, k.room, w.below)

    here : (j : ℕ) → count ≤ j → j < count + 1 → j ≡ count
    here j a b = omega arith

    old : (j : ℕ) → j < count → Held l (set links slot (count + 1)) j
    old j h =
        let g = k.held j h in
        record {
          turns = g.turns;
          there = place_kept links slot (count + 1) free l (base_at l j) (lower_at l j) g.turns g.passed (omega (arith, g.there)) ∙ g.there;
          passed = passed_kept links slot (count + 1) free l (base_at l j) (lower_at l j) g.turns g.passed;
        }

    new : Held l (set links slot (count + 1)) count
    new =
        record {
          turns = w.turns;
          there =
              rw (end_kept links slot (count + 1) free l (base_at l count) (lower_at l count) w.turns w.passed, ← w.is)
              (get_or-set_same links slot (count + 1) 0 inside);
          passed = passed_kept links slot (count + 1) free l (base_at l count) (lower_at l count) w.turns w.passed;
        }
