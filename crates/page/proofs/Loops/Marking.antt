-- The walk for the first bad entry (`Marking`): it has passed only entries that are not bad, and each has left its mark, so that an entry without a
-- mark stands nowhere before. Its start, its step and its end. Assumes nothing.
use Prim.Native.Nat.{ℕ, ◌+◌, ◌%◌, ◌≤◌, ◌<◌}
use mathlib.Core.Path.{◌≡◌, sym, ap, ◌∙◌}
use mathlib.Core.Bool.{Bool, true, false}
use mathlib.Core.List.{List}
use native.Mathlib.Omega.{arith}
use lib.ListN.{length, get_or, take, set, replicate, length-set, length-replicate}
use lib.Seq.{get_or-set_same, get_or-set_other, get_or-take, length-take-le}
use lib.Dec.{eqb}
use borrow.Author.Tests.{eqb-true, eqb-false}
use Rattle.base.specs.Among.{among}
use Rattle.base.specs.Inner.First.{first_from}
use Rattle.base.proofs.Laws.First.{first_start, first_hit, first_miss, first_end}
use Rattle.base.proofs.Laws.Tests.{by_bool, split}
use Rattle.page_meaning.specs.Page.{PAGE_ENTRIES, bad_entry, first_bad}
use Rattle.page.specs.Inner.Marks.{MARKS}
use Rattle.page_meaning.proofs.Laws.Lists.{among_absent}

pub record Marking (page : List ℕ) (marks : List Bool) (i : ℕ) : Type 0 where
  pub size : length marks ≡ MARKS
  pub below : i ≤ PAGE_ENTRIES
  pub walked : first_from (bad_entry page) PAGE_ENTRIES i ≡ first_bad page
  pub marked : (j : ℕ) → j < i → get_or marks (get_or page j 0 % MARKS) false ≡ true

pub marking_start : (page : List ℕ) → Marking page (replicate MARKS false) 0
unfolding first_bad
marking_start page =
    record {
      size = length-replicate {A = Bool} MARKS false;
      below = omega arith;
      walked = first_start (bad_entry page) PAGE_ENTRIES;
      marked = λ j h. absurd (omega arith);
    }

module _ {page : List ℕ} {marks : List Bool} {i : ℕ} (g : Marking page marks i) where
  pub marking_new : length page ≡ PAGE_ENTRIES → (m : ℕ) → m ≡ get_or page i 0 % MARKS → get_or marks m false ≡ false
      → among (get_or page i 0) (take i page) ≡ false
  marking_new s m e f =
      let n : length (take i page) ≡ i = length-take-le i page (omega (arith, g.below)) in
      among_absent (get_or page i 0) (take i page) (λ k h p. no k (omega arith) (sym (get_or-take i page k 0 (omega arith)) ∙ p))
    where
      no : (k : ℕ) → k < i → get_or page k 0 ≡ get_or page i 0 → ⊥
      no k h p =
          let t : true ≡ false = sym (g.marked k h) ∙ ap (λ (x : ℕ). get_or marks (x % MARKS) false) p ∙ rw (← e) f in
          let z : ◌≡◌ {A = ℕ} 0 1 = cc in
          omega arith

  pub marking_hit : i < PAGE_ENTRIES → bad_entry page i ≡ true → i ≡ first_bad page
  marking_hit h b = sym (first_hit (bad_entry page) PAGE_ENTRIES i h b) ∙ g.walked

  pub marking_more : i < PAGE_ENTRIES → bad_entry page i ≡ false → (m : ℕ) → m ≡ get_or page i 0 % MARKS → m < MARKS
      → Marking page (set marks m true) (i + 1)
  marking_more h b m e l =
      record {
        size = length-set marks m true ∙ g.size;
        below = omega arith;
        walked = sym (first_miss (bad_entry page) PAGE_ENTRIES i h b) ∙ g.walked;
        marked = λ j k. by_bool (eqb (get_or page j 0 % MARKS) m)
            (λ z. let y = eqb-true (get_or page j 0 % MARKS) m z in rw y (get_or-set_same marks m true false (omega (arith, g.size))))
            (λ z. get_or-set_other marks m (get_or page j 0 % MARKS) true false (eqb-false (get_or page j 0 % MARKS) m z)
            ∙ split j i (g.marked j)
            (λ n. let y : j ≡ i = omega arith in absurd (eqb-false (get_or page j 0 % MARKS) m z (rw y (sym e)))));
      }

  pub marking_end : PAGE_ENTRIES ≤ i → PAGE_ENTRIES ≡ first_bad page
  marking_end h = let e : PAGE_ENTRIES ≡ i = omega (arith, g.below) in e ∙ sym (first_end (bad_entry page) PAGE_ENTRIES i (sym e)) ∙ g.walked
