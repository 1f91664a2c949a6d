-- Closing a line (02 [6]): "Closing feeds the newline and gives the answer. .. Closing leaves the state as it is." Refusals: "first 19 ..; closing then
-- 14 if fewer were received". A line that has stopped is fed nothing more, as in the scan; else the newline's index is the declared length, and the sum is
-- compared there too.
-- Assumes nothing.
use Rattle.std.specs.Prelude.{ℕ, ◌+◌, true, false, cond, [], ◌∷◌, ltb, Result, ⊤}
use Rattle.base.specs.declared.Refusal.{Refusal}
use Rattle.base.specs.Causes.{given, first_of}
use Rattle.base.specs.Limits.{NEWLINE}
use Rattle.base.specs.declared.refusals.Cause.TheVariants.{LineShort}
use Rattle.classes.specs.Lookup.{builtin_class}
use Rattle.md_eight.specs.declared.Detectors.{Detectors}
use Rattle.md_eight.specs.Detectors.{feed}
use Rattle.md_meaning.specs.Scan.{scored, unless}
use Rattle.md_running_meaning.specs.declared.Running.{Running}
use Rattle.md_running_meaning.specs.State.{eight_of, bad_state}
use Rattle.md_running_meaning.specs.Feeding.{stops_at}
use Rattle.md_meaning.specs.declared.Score.{Score}

-- the eight after the newline. Its class is built in; it forgets the last range, so that no pair of ranges is looked at (`newline_any`)
unfoldable pub ended : Running → Detectors
ended s = feed (eight_of s) (builtin_class NEWLINE) false

unfoldable pub closed : Running → Result Score Refusal
closed s =
    cond s.stopped
    (scored (eight_of s) s.fed true)
    (scored (ended s) (s.length + 1) (stops_at s (ended s) s.length))

-- 14
unfoldable pub line_short : Running → Result ⊤ Refusal
line_short s = given (ltb s.received s.length) LineShort 0

-- 19, 14
unfoldable pub close_causes : Running → Result ⊤ Refusal
close_causes s = first_of (bad_state s ∷ line_short s ∷ [])

unfoldable pub close_line : Running → Result Score Refusal
close_line s = unless (close_causes s) (closed s)
