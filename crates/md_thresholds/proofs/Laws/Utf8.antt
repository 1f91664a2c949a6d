-- What a higher threshold does, of UTF-8 bytes: the three sentences (`higher_compared_utf8`).
-- Assumes nothing.
use Rattle.std.specs.Prelude.{Ok}
use Prim.Native.Nat.{ℕ}
use mathlib.Core.Path.{◌≡◌}
use mathlib.Core.List.{List}
use lib.Ieee.{Float}
use Rattle.utf8_meaning.specs.Text.{text_of}
use Rattle.md_meaning.specs.declared.Score.{Score}
use Rattle.md_utf8_meaning.specs.ScoreUtf8.{mess_ratio_utf8}
use Rattle.md_utf8_meaning.proofs.Laws.Accepted.{utf8_scored}
use Rattle.md_thresholds.specs.Thresholds.{Higher, Compared}
use Rattle.md_thresholds.proofs.Laws.Thresholds.{higher_compared}

pub higher_compared_utf8 : (bytes classes pairs : List ℕ) (t u : Float) → Higher t u → (low high : Score)
    → mess_ratio_utf8 bytes t classes pairs ≡ Ok low → mess_ratio_utf8 bytes u classes pairs ≡ Ok high → Compared low high
higher_compared_utf8 bytes classes pairs t u H low high e f =
    higher_compared (text_of bytes) classes pairs t u H low high (utf8_scored bytes t classes pairs low e) (utf8_scored bytes u classes pairs high f)
