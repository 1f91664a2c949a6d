-- The walk that holds each record's place to the largest before it (`Seen`): its start, its step and its end.
-- Assumes nothing.
use Prim.Native.Nat.{ℕ, ◌+◌, ◌≤◌, ◌<◌}
use mathlib.Core.Path.{◌≡◌, refl, ◌∙◌}
use mathlib.Core.Bool.{Bool, true, ◌&&◌}
use mathlib.Core.List.{List}
use native.Mathlib.Numerals.{add-one}
use native.Mathlib.Omega.{arith}
use lib.Dec.{leb, ltb, eqb}
use Rattle.base.specs.First.{each}
use Rattle.base.specs.Inner.Numbers.{Picked}
use Rattle.base.proofs.Laws.First.{each_more}
use Rattle.base.proofs.Laws.Tests.{by_test}
use Rattle.class_compact_meaning.specs.Form.{compact_records}
use Rattle.class_compact_meaning.specs.Inner.Form.{Place, HALF}
use Rattle.class_compact_meaning.specs.Inner.Sound.{seen_before, next_only, in_first_use}

pub record Seen (c : List ℕ) (i seen : ℕ) (good : Bool) : Type 0 where
  pub below : i ≤ compact_records c
  pub is : seen ≡ seen_before c i
  pub small : seen < HALF
  pub all : good ≡ each (next_only c) i

module _ (c : List ℕ) where
  pub seen_start : Seen c 0 0 true
  unfolding seen_before each
  seen_start = record { below = omega arith; is = refl; small = omega arith; all = refl }

  pub seen_more : (i seen place next : ℕ) (good : Bool) → Seen c i seen good → i < compact_records c → Place c i place
      → Picked (ltb seen place) place seen next → Seen c (i + 1) next (good && leb place (seen + 1))
  unfolding seen_before next_only
  seen_more i seen place next good s h p q =
      record {
        below = omega arith;
        is = q.is ∙ rw (add-one i, s.is, p.is);
        small = rw q.is (by_test (λ (m : ℕ). m < HALF) (ltb seen place) place seen (λ e. p.small) (λ e. s.small));
        all = rw (← each_more (next_only c) i, s.all, s.is, p.is);
      }

  pub seen_end : (i seen m : ℕ) (good : Bool) → Seen c i seen good → compact_records c ≤ i → (good && eqb seen m) ≡ in_first_use c m
  unfolding in_first_use
  seen_end i seen m good s h =
      let e : i ≡ compact_records c = omega (arith, s.below) in
      rw (s.is, s.all, e)
