-- Characters that are looked at together, and those past them. Assumes nothing.
use Rattle.std.proofs.Common.{ℕ, ◌+◌, ◌<◌, ◌≤◌, List, arith}
use Rattle.base.proofs.Laws.Tests.{split}
use Rattle.md_meaning.specs.Text.{char_at}
use Rattle.md_rest.specs.Inner.Rest.{Past}
use Rattle.md_runs.specs.Inner.Ahead.{AHEAD}

module _ (text : List ℕ) (low high from : ℕ) where
  -- the first j of them are looked at: those before `first` lie from low to high
  pub record Looked (first j : ℕ) : Type 0 where
    pub few : first ≤ AHEAD
    pub least : (k : ℕ) → k < j → k < first → low ≤ char_at text (from + k)
    pub most : (k : ℕ) → k < j → k < first → char_at text (from + k) ≤ high

  -- the characters passed, cut off at `end`, and those behind them
  module _ (far end r : ℕ) (s : Past text low high from far r) where
    pub past_cut : from ≤ end → end ≤ r → Past text low high from end end
    past_cut a b =
        record { begins = a; ends = omega arith; least = λ k x y. s.least k x (omega arith); most = λ k x y. s.most k x (omega arith) }

    pub past_joined : (q : ℕ) → Past text low high r end q → Past text low high from end q
    past_joined q t =
        record {
          begins = omega (arith, s.begins, t.begins);
          ends = t.ends;
          least = λ k a b. split k r (λ m. s.least k a m) (λ m. t.least k m b);
          most = λ k a b. split k r (λ m. s.most k a m) (λ m. t.most k m b);
        }
