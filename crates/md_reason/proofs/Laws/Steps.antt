-- What the passes need of a step of the scan: the class that is fed has a range that the pair table knows (`fed_range`), the state has room (`fed_watchable`, `watched_range`), the state
-- after it (`watched_next_lem`), and that its place of growth tells whether the numerator grew here (`grew_is`). Assumes nothing.
use Rattle.std.specs.Prelude.{Option, Some, None}
use Prim.Native.Nat.{ℕ, ◌+◌, ◌≤◌, ◌<◌}
use mathlib.Core.Path.{◌≡◌, refl, sym, ap, ◌∙◌}
use mathlib.Core.Bool.{Bool, true}
use mathlib.Core.List.{List}
use native.Mathlib.Numerals.{add-one}
use native.Mathlib.Omega.{arith}
use lib.Dec.{eqb}
use lib.ListN.{length}
use borrow.Author.Tests.{eq-eqb, ne_eqb}
use Rattle.base.specs.Limits.{LAST_RANGE, LONGEST_TEXT}
use Rattle.base.proofs.Laws.Tests.{by_bool}
use Rattle.class_records.specs.Records.{good_table}
use Rattle.classes.specs.declared.Class.{Class}
use Rattle.md_eight.specs.Detectors.{last_range}
use Rattle.md_meaning.specs.Text.{char_at, total}
use Rattle.md_meaning.specs.Scan.{class_in, class_at}
use Rattle.md_meaning.proofs.Laws.Scan.{class_range, state_within, state_range}
use Rattle.md_growth.specs.Text.{growth_of, last_of, watched_next, grows, watched_at}
use Rattle.md_growth.specs.Inner.Growth.{Watchable}
use Rattle.md_growth.proofs.Laws.Growth.{within_watchable, watched_eight, last_growth}
use Rattle.md_growth.proofs.Laws.Last.{last_hit, last_miss, last_within}

in_range : (p : ℕ) (f : Option Class) → ((c : Class) → f ≡ Some c → c.range ≤ LAST_RANGE) → (class_in p f).range ≤ LAST_RANGE
in_range p (Some c) r = r c refl
in_range p None r = omega arith

pub fed_range : (classes text : List ℕ) → good_table classes ≡ true → (i : ℕ) → (class_in (char_at text i) (class_at classes text i)).range ≤ LAST_RANGE
fed_range classes text g i = in_range (char_at text i) (class_at classes text i) (class_range classes text g i)

module _ (classes pairs text : List ℕ) where
  pub watched_range : good_table classes ≡ true → (i : ℕ) → last_range (watched_at classes pairs text i).eight ≤ LAST_RANGE
  watched_range g i = rw (watched_eight classes pairs text i) (state_range classes pairs text g i)

  pub fed_watchable : length text ≤ LONGEST_TEXT → (i : ℕ) → i < total text → (c : Class) (b : Bool) → Watchable (watched_at classes pairs text i) c b
  fed_watchable short i h c b =
      within_watchable i (watched_at classes pairs text i) (rw (watched_eight classes pairs text i) (state_within classes pairs text i)) (omega arith) c b

  pub watched_next_lem : (i : ℕ) → watched_at classes pairs text (i + 1)
      ≡ watched_next pairs (watched_at classes pairs text i) (class_in (char_at text i) (class_at classes text i)) (i + 1)
  unfolding watched_at
  watched_next_lem i = ap (watched_at classes pairs text) (add-one i)

  pub grew_is : (d i : ℕ) → eqb (growth_of d (watched_at classes pairs text (i + 1)).grown) (i + 1) ≡ grows classes pairs text d i
  grew_is d i =
      rw (last_growth classes pairs text d (i + 1))
      (by_bool (grows classes pairs text d i)
      (λ e. rw (last_hit (grows classes pairs text d) i e) (eq-eqb (i + 1) (i + 1) refl ∙ sym e))
      (λ e. rw (last_miss (grows classes pairs text d) i e) (ne_eqb (last_of (grows classes pairs text d) i) (i + 1) (λ z. before i z) ∙ sym e)))
    where
      before : (i : ℕ) → last_of (grows classes pairs text d) i ≡ i + 1 → ⊥
      before i z = omega (arith, last_within (grows classes pairs text d) i)
