-- 01, "The scan", over good tables: the state of the eight detectors after i characters, where the scan stops, and what it answers. A
-- character in no record is refused (6) wherever it stands. The laws stand in proofs/Laws/Scan.
-- Assumes nothing.
use Rattle.std.specs.Prelude.{ℕ, zero, suc, ◌+◌, Bool, true, false, cond, ◌&&◌, List, ltb, Float, length, Result, Ok, Err, Option, Some, None, ⊤}
use Rattle.std.specs.Float.Ieee.{le}
use Rattle.base.specs.declared.Refusal.{Refusal}
use Rattle.base.specs.Causes.{given}
use Rattle.base.specs.First.{first}
use Rattle.base.specs.declared.refusals.Cause.TheVariants.{Unclassed}
use Rattle.classes.specs.declared.Class.{Class}
use Rattle.classes.specs.Lookup.{class_of, missing}
use Rattle.classes.specs.Pairs.{suspicious}
use Rattle.md_eight.specs.declared.Detectors.{Detectors}
use Rattle.md_eight.specs.Detectors.{start, feed, counts, ratios, last_range}
use Rattle.ratio.specs.Eight.{sum}
use Rattle.ratio.specs.Shown.{eight_shown}
use Rattle.md_meaning.specs.Text.{char_at, total, checkpoint}
use Rattle.md_meaning.specs.declared.Score.{Score}

-- the sum of the eight ratios, "added in order, each operation rounded once"
unfoldable pub sum_of : Detectors → Float
sum_of s = sum (ratios s)

-- "at or above the threshold the scan stops"; without stopping, nothing is reached
unfoldable pub reaches : Option Float → Float → Bool
reaches (Some t) x = le t x
reaches None x = false

-- one character, fed to the eight; the ranges detector is told whether its range after the last one is suspicious
unfoldable pub fed : List ℕ → Detectors → Class → Detectors
fed pairs s c = feed s c (suspicious pairs (last_range s) c.range)

-- the class that a lookup found. A text in which it found none is refused, so what stands for it is never seen in an answer
abbrev pub class_in : ℕ → Option Class → Class
class_in p (Some c) = c
class_in p None = record { point = p; flags = 0; range = 0; base = p; lower = p }

-- the class of the character at i
unfoldable pub class_at : List ℕ → List ℕ → ℕ → Option Class
class_at classes text i = class_of classes (char_at text i)

unfoldable pub unclassed : List ℕ → List ℕ → ℕ → Bool
unclassed classes text i = missing (class_at classes text i)

module _ (classes pairs text : List ℕ) where
  -- the state after i characters
  unfoldable pub state_at : ℕ → Detectors
  state_at zero = start
  state_at (suc i) = fed pairs (state_at i) (class_in (char_at text i) (class_at classes text i))

  -- the scan stops after the character at i, if it has come to it
  unfoldable pub stops : Option Float → ℕ → Bool
  stops limit i = checkpoint (length text) i && reaches limit (sum_of (state_at (i + 1)))

-- "The score answer holds eight ratios and their sum as f32, [..] characters fed; whether it stopped"; and each ratio "brings the numerator [..], the
-- denominator, and a cut-off mark" (02 [7])
unfoldable pub scored : Detectors → ℕ → Bool → Result Score Refusal
scored s n early =
    Ok (record { ratios = ratios s; sum = sum_of s; fed = n; stopped = early; counts = eight_shown (counts s) (ratios s) })

-- the index of the stop, `total text` where there is none
abbrev pub stop_of : List ℕ → List ℕ → List ℕ → Option Float → ℕ
stop_of classes pairs text limit = first (stops classes pairs text limit) (total text)

-- the score of a text that is accepted: "`fed` ends at the first checkpoint whose sum is at or above the threshold, or, without one, at the
-- newline"
unfoldable pub accepted_score : List ℕ → List ℕ → List ℕ → Option Float → Result Score Refusal
accepted_score classes pairs text limit =
    cond (ltb (stop_of classes pairs text limit) (total text))
    (scored (state_at classes pairs text (stop_of classes pairs text limit + 1)) (stop_of classes pairs text limit + 1) true)
    (scored (state_at classes pairs text (total text)) (total text) false)

-- the first character in no record, `total text` where there is none; the newline always has a class
abbrev pub first_unclassed : List ℕ → List ℕ → ℕ
first_unclassed classes text = first (unclassed classes text) (total text)

-- 6: "code point in no record", at "its index in the text"
unfoldable pub no_class : List ℕ → List ℕ → Result ⊤ Refusal
no_class classes text = given (ltb (first_unclassed classes text) (total text)) Unclassed (first_unclassed classes text)

-- the accepted answer unless there is a cause
unfoldable pub unless : Result ⊤ Refusal → Result Score Refusal → Result Score Refusal
unless (Ok u) s = s
unless (Err r) s = Err r
