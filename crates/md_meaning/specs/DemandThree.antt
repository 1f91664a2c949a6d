-- Demand 3 for mess_ratio, whole: "The returned score lies within 9 parts in 2^24 of the exact value, a sum of eight fractions of counts,
-- and the scan stops where the exact value, to within those 9 parts, is at the threshold, and not before." For every text that is accepted
-- and every finite f32 as the threshold, in whole numbers (Rattle.ratio_demand.specs.Demand: Near, Reached, Missed), over the eight fractions of
-- the state after i characters (Scan: stateAt) and each checkpoint by its index. Law: `demand_three`, about the definition that
-- mess_ratio's contract equates its answer with.
-- Assumes nothing.
use Rattle.std.specs.Prelude.{ℕ, ◌+◌, ◌<◌, ◌≡◌, true, false, List, Float, length}
use Rattle.md_eight.specs.Detectors.{fractions}
use Rattle.ratio.specs.Eight.{Fractions}
use Rattle.ratio_demand.specs.Demand.{Near, Reached, Missed}
use Rattle.ratio_demand.proofs.Laws.Demand.{near}
use Rattle.md_meaning.specs.declared.Score.{Score}
use Rattle.md_meaning.specs.Text.{total, checkpoint}
use Rattle.md_meaning.specs.Scan.{state_at}

-- the eight fractions after i characters: E is their sum
abbrev pub fractions_at : List ℕ → List ℕ → List ℕ → ℕ → Fractions
fractions_at classes pairs text i = fractions (state_at classes pairs text i)

-- what demand 3 asks of an answer
pub record Certain (text : List ℕ) (threshold : Float) (classes pairs : List ℕ) (s : Score) : Type 0 where
  -- 2^24 |score - E| <= 9 E, with E at the place of stopping
  pub near : Near s.sum (fractions_at classes pairs text s.fed)
  -- where it stopped early, (2^24 + 9) E >= 2^24 T there
  pub stopped : s.stopped ≡ true → Reached threshold (fractions_at classes pairs text s.fed)
  -- at each earlier checkpoint, (2^24 - 9) E < 2^24 T
  pub earlier : (i : ℕ) → i + 1 < s.fed → checkpoint (length text) i ≡ true → Missed threshold (fractions_at classes pairs text (i + 1))
  -- and at all of them where it did not stop early
  pub never : s.stopped ≡ false → (i : ℕ) → i < total text → checkpoint (length text) i ≡ true → Missed threshold (fractions_at classes pairs text (i + 1))
