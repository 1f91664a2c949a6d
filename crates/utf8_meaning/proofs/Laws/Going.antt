-- How a reading goes on from a place: past one sequence, and past a run of ASCII. Assumes nothing.
use Prim.Native.Nat.{ℕ, ◌+◌, ◌-◌, ◌≤◌}
use mathlib.Core.Path.{◌≡◌, ◌∙◌}
use mathlib.Core.List.{List, [], ◌∷◌}
use native.Mathlib.Omega.{arith}
use lib.ListN.{length, take, drop, length-drop}
use lib.Seq.{length-take-le}
use Rattle.utf8_table.specs.WellFormed.{step_at}
use Rattle.utf8_table.proofs.Laws.Complete.{got}
use Rattle.utf8_meaning.specs.Text.{after}
use Rattle.utf8_meaning.specs.Inner.Text.{from}
use Rattle.utf8_meaning.proofs.Laws.Text.{from_step, step_fits}
use Rattle.utf8_meaning.specs.Inner.Ascii.{AsciiRun}

-- a place where a code point stands is followed by the rest of the reading
pub goes_on : (bytes : List ℕ) (i k p : ℕ) → step_at bytes i ≡ got k p → 1 ≤ k → from bytes i ≡ after (p ∷ []) (from bytes (i + k))
goes_on bytes i k p e h =
    from_step bytes i (λ z. let y : k ≡ 0 = rw e at z in omega arith) ∙ rw e

pub fits : (bytes : List ℕ) (i k p : ℕ) → step_at bytes i ≡ got k p → 1 ≤ k → i + k ≤ length bytes
fits bytes i k p e h = rw e at (step_fits bytes i (λ z. let y : k ≡ 0 = rw e at z in omega arith))

pub run_length : (bytes : List ℕ) (i j : ℕ) → AsciiRun bytes i j → length (take (j - i) (drop i bytes)) ≡ j - i
run_length bytes i j r = length-take-le (j - i) (drop i bytes) (omega (arith, length-drop i bytes, r.inside))
