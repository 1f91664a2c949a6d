-- What a higher threshold does, of a line that is fed while it arrives: two openings that differ in the threshold, fed with the same characters, and the
-- answers of closing (`running_compared`).
-- Assumes nothing.
use Rattle.std.specs.Prelude.{Ok}
use Prim.Native.Nat.{ℕ}
use mathlib.Core.Path.{◌≡◌, sym, ◌∙◌}
use mathlib.Core.List.{List}
use lib.Ieee.{Float}
use lib.ListN.{length}
use Rattle.md_meaning.specs.declared.Score.{Score}
use Rattle.md_meaning.proofs.Laws.Accepted.{Faultless}
use Rattle.md_running_meaning.specs.Closing.{close_line}
use Rattle.md_running_meaning.specs.Line.{line_at}
use Rattle.md_running_meaning.proofs.Laws.Line.{closing_whole}
use Rattle.md_thresholds.specs.Thresholds.{Higher, Compared}
use Rattle.md_thresholds.proofs.Laws.Thresholds.{higher_compared}

-- a text without a fault at one threshold has none at another that is finite
other : (text : List ℕ) (t u : Float) (classes pairs : List ℕ) → Higher t u → Faultless text t classes pairs → Faultless text u classes pairs
other text t u classes pairs H f = record { short = f.short; finite = H.upper_finite; tables = f.tables; classed = f.classed }

pub running_compared : (text classes pairs : List ℕ) (t u : Float) → Higher t u → Faultless text t classes pairs → (low high : Score)
    → close_line (line_at text t classes pairs (length text)) ≡ Ok low
    → close_line (line_at text u classes pairs (length text)) ≡ Ok high
    → Compared low high
running_compared text classes pairs t u H f low high e g =
    higher_compared text classes pairs t u H low high
    (sym (closing_whole text t classes pairs f) ∙ e)
    (sym (closing_whole text u classes pairs (other text t u classes pairs H f)) ∙ g)
