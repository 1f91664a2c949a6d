-- Words of inner contracts, beside Going: `stopped_after`. No public promise rests on them.
-- Assumes nothing.
use Rattle.std.specs.Prelude.{ℕ, ◌+◌, List, true, ltb, Result}
use Rattle.base.specs.declared.Refusal.{Refusal}
use Rattle.base.specs.Causes.{given}
use Rattle.base.specs.Inner.First.{first_from}
use Rattle.base.specs.declared.refusals.Cause.TheVariants.{Unclassed}
use Rattle.md_eight.specs.declared.Detectors.{Detectors}
use Rattle.md_meaning.specs.Text.{total}
use Rattle.md_meaning.specs.Scan.{unclassed, scored, unless}
use Rattle.md_meaning.specs.declared.Score.{Score}

-- the answer of a scan that stops after the character at i, its state being s
unfoldable pub stopped_after : List ℕ → List ℕ → Detectors → ℕ → Result Score Refusal
stopped_after classes text s i =
    unless
    (given (ltb (first_from (unclassed classes text) (total text) (i + 1)) (total text)) Unclassed (first_from (unclassed classes text) (total text) (i + 1)))
    (scored s (i + 1) true)
