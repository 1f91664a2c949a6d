-- The program's line (01, "Marked and run"): `score 40800000 fed 2 stopped 0` or `refused 2 at 0`, "and a line feed". The eight digits are
-- the bits of the sum as an f32; `stopped` is 1 where the scan stopped early, else 0.
-- Assumes nothing.
use Rattle.std.specs.Prelude.{ℕ, ◌≤◌, ◌≡◌, List, ◌++◌, length, Result, Ok, Err}
use Rattle.std.specs.Float.Ieee.{to_bits}
use Rattle.std.specs.Float.{binary32}
use Rattle.base.specs.declared.Refusal.{Refusal}
use Rattle.base.specs.Numbers.{bump}
use Rattle.base.specs.Put.{put}
use Rattle.base.specs.Refusals.{number_of}
use Rattle.program.specs.Program.{answer}
use Rattle.pieces.specs.Words.{codes}
use Rattle.pieces.specs.Numerals.{decimal}
use Rattle.program.specs.Numerals.{hex}
use Rattle.md_meaning.specs.declared.Score.{Score}

unfoldable pub line : Result Score Refusal → List ℕ
line (Ok s) =
    codes "score "
    ++ hex (to_bits binary32 s.sum)
    ++ codes " fed "
    ++ decimal s.fed
    ++ codes " stopped "
    ++ decimal (bump s.stopped)
    ++ codes "\n"
line (Err r) =
    codes "refused "
    ++ decimal (number_of r.cause)
    ++ codes " at "
    ++ decimal r.place
    ++ codes "\n"

-- what `report` promises: how many bytes it has written, that the output had room for them, and that they are the line for these bytes, in the
-- first places of the output; the rest of the output stays
pub record Reported (bytes before after : List ℕ) (count : ℕ) : Type 0 where
  pub room : count ≤ length after
  pub counted : count ≡ length (line (answer bytes))
  pub written : after ≡ put before 0 (line (answer bytes))
