-- The walk to the slot of letters (`Walking`): its start, its step and its two ends.
-- Assumes nothing.
use Prim.Native.Nat.{ℕ, ◌+◌, ◌-◌, ◌*◌, ◌/◌, ◌%◌, ◌≤◌, ◌<◌}
use mathlib.Core.Path.{◌≡◌}
use mathlib.Core.Bool.{true, false}
use mathlib.Core.List.{List}
use native.Mathlib.Numerals.{add-one}
use native.Mathlib.Omega.{arith}
use lib.ListN.{get_or}
use Rattle.base.proofs.Laws.First.{first_is, first_none}
use Rattle.base.proofs.Laws.Tests.{by_bool, split}
use Rattle.class_compact_meaning.specs.Form.{base_at, lower_at}
use Rattle.class_compact_meaning.specs.Check.{letters_are}
use Rattle.class_compact_meaning.specs.Inner.Links.{MARKS, LINKS, Mark, bits_of, bits_after, slot_at, Passed, Held, Linked, Walked, Slot}
use Rattle.class_compact_meaning.proofs.Laws.Firsts.{clash}
use Rattle.class_compact_meaning.proofs.Laws.Links.{none_below}
use Rattle.class_compact_meaning.proofs.Laws.Numbering.{both}

pub record Walking (l : List ℕ) (count base lower : ℕ) (links : List ℕ) (slot bits : ℕ) : Type 0 where
  pub linked : Linked l count links
  pub walked : Walked l count base lower links slot
  pub left : bits ≡ bits_after base lower walked.turns

module _ (l : List ℕ) (count base lower : ℕ) (links : List ℕ) where
  pub walking_start : Linked l count links → (slot bits : ℕ) → Mark base lower slot → bits ≡ bits_of base lower → Walking l count base lower links slot bits
  unfolding slot_at bits_after
  walking_start k slot bits m e =
      record { linked = k; walked = record { turns = 0; is = m.is; passed = λ e h. none_below e h; below = omega (arith, m.small) }; left = e }

  module _ {slot bits : ℕ} (w : Walking l count base lower links slot bits) where
    pub walking_inside : slot < LINKS
    walking_inside = omega (arith, w.linked.room, w.walked.below)

    -- the place there lies behind it
    pub walking_rises : (get_or links slot 0 ≡ 0 → ⊥) → slot < MARKS + 2 * get_or links slot 0
    walking_rises h = w.linked.rising slot (omega arith)

    pub walking_more : (get_or links slot 0 ≡ 0 → ⊥) → letters_are l base lower (get_or links slot 0 - 1) ≡ false
        → Walking l count base lower links (MARKS + (2 * get_or links slot 0 + bits % 2)) (bits / 2)
    unfolding slot_at bits_after
    walking_more h other =
        let some : 0 < get_or links slot 0 = omega arith in
        record {
          linked = w.linked;
          walked =
              record {
                turns = w.walked.turns + 1;
                is = rw (add-one w.walked.turns, ← w.walked.is, ← w.left);
                passed =
                    λ e h. split e w.walked.turns
                    (λ a. w.walked.passed e a)
                    (λ a. rw (here e a h) (record { some = rw (← w.walked.is) some; other = rw (← w.walked.is) other }));
                below = omega (arith, w.linked.small slot);
              };
          left = rw (add-one w.walked.turns, ← w.left);
        }
      where
        here : (e : ℕ) → w.walked.turns ≤ e → e < w.walked.turns + 1 → e ≡ w.walked.turns
        here e a b = omega arith

    -- letters that are there come to the same slot
    met : (0 < get_or links slot 0 → letters_are l base lower (get_or links slot 0 - 1) ≡ true)
        → (j : ℕ) → j < count → letters_are l base lower j ≡ true → get_or links slot 0 ≡ j + 1
    unfolding letters_are
    met stop j h e =
        let b = both (base_at l j) (lower_at l j) base lower e in
        let g : Held l links j = w.linked.held j h in
        let there : get_or links (slot_at links base lower g.turns) 0 ≡ j + 1 = rw (b.0, b.1) at g.there in
        split g.turns w.walked.turns
        (λ a. clash e (rw (there, back j) at (w.walked.passed g.turns a).other))
        (λ a. split w.walked.turns g.turns
        (λ c. let p : Passed l links base lower w.walked.turns = rw (b.0, b.1) at (g.passed w.walked.turns c) in
        let some : 0 < get_or links slot 0 = rw w.walked.is p.some in
        clash (stop some) (rw w.walked.is p.other))
        (λ c. let z : w.walked.turns ≡ g.turns = equal a c in rw (w.walked.is, z) there))
      where
        back : (j : ℕ) → j + 1 - 1 ≡ j
        back j = omega arith

        equal : {a b : ℕ} → a ≤ b → b ≤ a → a ≡ b
        equal x y = omega arith

    pub walking_none : get_or links slot 0 ≡ 0 → Slot l count base lower links slot
    walking_none e =
        record {
          walked = w.walked;
          none = λ z. first_none _ count (λ j h. by_bool (letters_are l base lower j) (λ s. absurd (no j (met (λ a. never a) j h s))) (λ s. s));
          some = λ a. absurd (a e);
        }
      where
        never : {A : Type 0} → 0 < get_or links slot 0 → A
        never a = none_below 0 (rw e at a)

        no : (j : ℕ) → get_or links slot 0 ≡ j + 1 → ⊥
        no j z = omega arith

    pub walking_some : (get_or links slot 0 ≡ 0 → ⊥) → letters_are l base lower (get_or links slot 0 - 1) ≡ true → Slot l count base lower links slot
    walking_some a e =
        record {
          walked = w.walked;
          none = λ z. absurd (a z);
          some = λ z. let f = first_is (letters_are l base lower) count (get_or links slot 0 - 1) (omega (arith, w.linked.small slot)) e before in omega arith;
        }
      where
        before : (j : ℕ) → j < get_or links slot 0 - 1 → letters_are l base lower j ≡ false
        before j h =
            by_bool (letters_are l base lower j)
            (λ s. absurd (no (met (λ z. e) j (omega (arith, w.linked.small slot)) s)))
            (λ s. s)
          where
            no : get_or links slot 0 ≡ j + 1 → ⊥
            no z = omega arith
