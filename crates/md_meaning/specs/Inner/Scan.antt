-- Words of inner contracts, beside Scan: `answered`, `scan`. No public promise rests on them.
-- Assumes nothing.
use Rattle.base.specs.declared.Refusal.{Refusal}
use Rattle.std.specs.Prelude.{ℕ, Bool, List, Result, Ok, Err, Option, Float}
use Rattle.ratio.specs.declared.EightCounts.{EightCounts}
use Rattle.ratio.specs.Eight.{sum, ratios, fractions_of}
use Rattle.ratio.specs.Shown.{eight_shown}
use Rattle.md_meaning.specs.Scan.{accepted_score, no_class, unless}
use Rattle.md_meaning.specs.declared.Score.{Score}

-- the answer that counts make
unfoldable pub answered : EightCounts → ℕ → Bool → Result Score Refusal
answered c n early =
    Ok
    (record {
      ratios = ratios (fractions_of c);
      sum = sum (ratios (fractions_of c));
      fed = n;
      stopped = early;
      counts = eight_shown c (ratios (fractions_of c));
    })

unfoldable pub scan : List ℕ → List ℕ → List ℕ → Option Float → Result Score Refusal
scan classes pairs text limit = unless (no_class classes text) (accepted_score classes pairs text limit)
