-- The loop of `mean_of` under way (`Summing`): the scores of the language in the first i entries are added and counted.
-- Assumes nothing.
use Prim.Native.Nat.{ℕ, ◌+◌, ◌≤◌, ◌<◌}
use mathlib.Core.Path.{◌≡◌, refl}
use mathlib.Core.List.{List}
use native.Mathlib.Numerals.{add-one}
use native.Mathlib.Omega.{arith}
use lib.IntN.{pos}
use lib.Ieee.{Float, binary32, div, of_int}
use borrow.Author.Tests.{eq-eqb, ne_eqb}
use Rattle.ratio.specs.Rounded.{ZERO, ◌⊕◌}
use Rattle.cd_merge_meaning.specs.Entries.{entries, language_at, score_at}
use Rattle.cd_merge_meaning.specs.Merge.{sum_of, count_of, mean}
use Rattle.cd_merge_meaning.specs.Inner.Good.{Good, MOST_ENTRIES}
use Rattle.cd_merge_meaning.proofs.Laws.Means.{count_few}

pub record Summing (list : List ℕ) (language : ℕ) (sum : Float) (count i : ℕ) : Type 0 where
  pub below : i ≤ entries list
  pub added : sum ≡ sum_of list language i
  pub counted : count ≡ count_of list language i

module _ (list : List ℕ) (language : ℕ) where
  pub summing_start : Summing list language ZERO 0 0
  unfolding sum_of count_of
  summing_start = record { below = omega arith; added = refl; counted = refl }

  module _ {sum : Float} {count i : ℕ} (g : Summing list language sum count i) where
    pub summing_few : count ≤ i
    summing_few = omega (arith, g.counted, count_few list language i)

    pub summing_small : Good list → count ≤ MOST_ENTRIES
    summing_small h = omega (arith, summing_few, g.below, h.few)

    pub summing_one : i < entries list → language_at list i ≡ language → (x : Float) → x ≡ score_at list i → Summing list language (sum ⊕ x) (count + 1) (i + 1)
    unfolding sum_of count_of
    summing_one h e x f =
        record {
          below = omega arith;
          added = rw (add-one i, eq-eqb (language_at list i) language e, g.added, f);
          counted = rw (add-one i, eq-eqb (language_at list i) language e, g.counted);
        }

    pub summing_other : i < entries list → (language_at list i ≡ language → ⊥) → Summing list language sum count (i + 1)
    unfolding sum_of count_of
    summing_other h e =
        record {
          below = omega arith;
          added = rw (add-one i, ne_eqb (language_at list i) language e, g.added);
          counted = rw (add-one i, ne_eqb (language_at list i) language e, g.counted);
        }

    pub summing_end : entries list ≤ i → div binary32 sum (of_int binary32 (pos count)) ≡ mean list language
    unfolding mean
    summing_end h = let e : i ≡ entries list = omega (arith, g.below) in rw (g.added, g.counted, e)
