-- The program's answer (01, "Marked and run"): "The program reads standard input, up to 4,096 bytes (more is refused as 1), and scores it
-- at 0.2 with no class records and an all-zero pair table." How the bytes come in and go out is the program's own and no definition's.
-- Assumes nothing.
use Rattle.std.specs.Prelude.{ℕ, List, [], ltb, Float, length, replicate, Result, ⊤}
use Rattle.std.specs.Float.Ieee.{of_bits}
use Rattle.std.specs.Float.{binary32}
use Rattle.base.specs.declared.Refusal.{Refusal}
use Rattle.base.specs.Causes.{given}
use Rattle.base.specs.Limits.{PAIR_BYTES}
use Rattle.base.specs.declared.refusals.Cause.TheVariants.{TooLong}
use Rattle.md_meaning.specs.Scan.{unless}
use Rattle.md_utf8_meaning.specs.ScoreUtf8.{mess_ratio_utf8}
use Rattle.md_meaning.specs.declared.Score.{Score}

-- "up to 4,096 bytes"
abbrev pub LONGEST_INPUT : ℕ
LONGEST_INPUT = 4096

-- "at 0.2"
abbrev pub THRESHOLD : Float
THRESHOLD = of_bits binary32 0x3E4CCCCD

-- "no class records"
abbrev pub NO_CLASSES : List ℕ
NO_CLASSES = []

-- "an all-zero pair table"
unfoldable pub NO_PAIRS : List ℕ
NO_PAIRS = replicate PAIR_BYTES 0

-- "more is refused as 1"
unfoldable pub many_bytes : List ℕ → Result ⊤ Refusal
many_bytes bytes = given (ltb LONGEST_INPUT (length bytes)) TooLong 0

unfoldable pub answer : List ℕ → Result Score Refusal
answer bytes = unless (many_bytes bytes) (mess_ratio_utf8 bytes THRESHOLD NO_CLASSES NO_PAIRS)
