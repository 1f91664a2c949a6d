-- Many lines scored in one call with a class table in the compact form (beyond 01, as many lines are): the causes of that call in their order, with the
-- compact table's 5, or the rows with its expansion.
-- Assumes nothing.
use Rattle.std.specs.Prelude.{ℕ, List, [], ◌∷◌, Float, length, Result, ⊤}
use Rattle.base.specs.declared.Refusal.{Refusal}
use Rattle.base.specs.Causes.{first_of}
use Rattle.base.specs.Counted.{count_unless, lent_after}
use Rattle.classes.specs.Pairs.{bad_pairs}
use Rattle.ratio.specs.Finite.{not_finite}
use Rattle.md_lines_meaning.specs.Lines.{lines_of}
use Rattle.md_lines_meaning.specs.Burst.{many_bytes, no_room, rows}
use Rattle.class_compact_meaning.specs.Unpacked.{unpacked}
use Rattle.class_compact_meaning.specs.Check.{bad_compact}

module _ (bytes : List ℕ) (threshold : Float) (c l pairs : List ℕ) where
  -- 1, 4, 5, 7, 3, in a call whose output has this room
  unfoldable pub lines_causes : ℕ → Result ⊤ Refusal
  lines_causes room = first_of (many_bytes bytes ∷ not_finite threshold ∷ bad_compact c l ∷ bad_pairs pairs ∷ no_room bytes room ∷ [])

  -- the number of lines, or the refusal
  unfoldable pub lines_answer : ℕ → Result ℕ Refusal
  lines_answer room = count_unless (lines_causes room) (length (lines_of bytes))

  -- the lent output after the call
  unfoldable pub lines_after : List ℕ → List ℕ
  lines_after out = lent_after (lines_causes (length out)) (rows threshold (unpacked c l) pairs (lines_of bytes)) out
