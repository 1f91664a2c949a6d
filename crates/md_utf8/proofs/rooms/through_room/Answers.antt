-- The room holds N code points. Assumes nothing.
use native.Mathlib.Omega.{arith}
use Prim.Native.Nat.{ℕ}
use lib.ListN.{length-replicate}
use Rattle.md_utf8.proofs.rooms.through_room.Goals as goal

pub whole_as_slice-through : goal.whole_as_slice-through
whole_as_slice-through g c = omega (arith, c.requires.2, length-replicate {A = ℕ} g.row.N 0)
