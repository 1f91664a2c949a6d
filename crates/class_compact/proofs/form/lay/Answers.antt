-- The part of the output from `at` on that is as long as the bytes gets them, so the whole gets them at `at`. Assumes nothing.
use native.Mathlib.Omega.{arith}
use mathlib.Core.Path.{◌≡◌, refl}
use mathlib.Core.List.{List}
use Prim.Native.Nat.{ℕ, ◌+◌, ◌-◌}
use lib.ListN.{length}
use lib.Seq.{drop-drop}
use borrow.Rule.Slice.PartMut.{put_mid}
use Rattle.base.specs.Put.{put}
use Rattle.class_compact.proofs.form.lay.Goals as goal

-- the bytes, put back into the whole
part_put : (b p : List ℕ) (at : ℕ) → put_mid at (at + length p - at) b p ≡ put b at p
unfolding put
part_put b p at =
    let e : at + length p - at ≡ length p = omega arith in
    rw (e, drop-drop (length p) at b) refl

pub returns : goal.returns
returns c = rw c.copy_from_slice.ensures.after (part_put _ _ _)
