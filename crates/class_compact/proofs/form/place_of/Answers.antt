-- The place is the high half of the word of range and place, and a half has 16 bits. Assumes nothing.
use Prim.Native.Nat.{ℕ, ◌+◌, ◌*◌}
use Rattle.class_compact_meaning.specs.Form.{COMPACT_RECORD, place_at}
use mathlib.Core.Path.{◌≡◌}
use native.Mathlib.Omega.{arith}
use Rattle.class_compact.proofs.form.place_of.Goals as goal

moved : (i : ℕ) → i * COMPACT_RECORD + 12 + 2 ≡ i * COMPACT_RECORD + 14
moved i = omega arith

pub returns : goal.returns
unfolding place_at
returns c = record { is = rw (moved _) at c.u32_at.ensures.high; small = omega arith }
