-- A list that is put into another from a place on, one element after the other (`Putting`): the first i stand there. Its start, its step and its
-- end.
-- Assumes nothing.
use Prim.Native.Nat.{ℕ, ◌+◌, ◌≤◌, ◌<◌}
use mathlib.Core.Path.{◌≡◌, sym, ap, ◌∙◌}
use mathlib.Core.List.{List}
use native.Mathlib.Omega.{arith}
use lib.ListN.{length, get_or, set, take}
use lib.Seq.{take-length, length-take-le}
use Rattle.base.specs.Put.{put}
use Rattle.base.proofs.Laws.Put.{put_nothing, put_length, put_more}

pub record Putting {A : Type 0} (out : List A) (at : ℕ) (l after : List A) (i : ℕ) : Type 0 where
  pub room : at + length l ≤ length out
  pub below : i ≤ length l
  pub so_far : after ≡ put out at (take i l)

module _ {A : Type 0} (out : List A) (at : ℕ) (l : List A) where
  pub putting_start : at + length l ≤ length out → Putting out at l out 0
  putting_start h = record { room = h; below = omega arith; so_far = sym (put_nothing out at) }

  module _ {after : List A} {i : ℕ} (g : Putting out at l after i) where
    pub putting_length : length after ≡ length out
    putting_length = ap length g.so_far ∙ put_length out at (take i l) (omega (arith, length-take-le i l g.below, g.room, g.below))

    pub putting_room : i < length l → at + i < length after
    putting_room h = omega (arith, putting_length, g.room)

    pub putting_more : i < length l → (z x : A) → x ≡ get_or l i z → Putting out at l (set after (at + i) x) (i + 1)
    putting_more h z x e =
        record {
          room = g.room;
          below = omega arith;
          so_far = rw (g.so_far, e) (put_more out at l i g.room h z);
        }

    pub putting_end : length l ≤ i → after ≡ put out at l
    putting_end h =
        let e : i ≡ length l = omega (arith, g.below) in
        g.so_far ∙ rw e (ap (put out at) (take-length l))
