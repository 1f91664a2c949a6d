-- Lists of one length laid one behind the other at the front of an output (`Laying`): the first i stand there. Its start, its step and its end.
-- Assumes nothing.
use Prim.Native.Nat.{ℕ, ◌+◌, ◌*◌, ◌≤◌, ◌<◌}
use mathlib.Core.Path.{◌≡◌, sym, ap, ◌∙◌}
use mathlib.Core.List.{List}
use native.Mathlib.Nat.{zero-add, mul-le-mul_right}
use native.Mathlib.Omega.{arith}
use lib.ListN.{length}
use Rattle.base.specs.Put.{put}
use Rattle.base.proofs.Laws.Put.{put_nothing, put_length, put_on}
use Rattle.class_compact_meaning.specs.Form.{joined}
use Rattle.class_compact_meaning.proofs.Laws.Form.{joined_more, joined_length}

pub record Laying (f : ℕ → List ℕ) (w n : ℕ) (old out : List ℕ) (i : ℕ) : Type 0 where
  pub each : (j : ℕ) → length (f j) ≡ w
  pub room : n * w ≤ length old
  pub below : i ≤ n
  pub so_far : out ≡ put old 0 (joined f i)

module _ (f : ℕ → List ℕ) (w n : ℕ) (old : List ℕ) where
  pub laying_start : ((j : ℕ) → length (f j) ≡ w) → n * w ≤ length old → Laying f w n old old 0
  unfolding joined
  laying_start e h = record { each = e; room = h; below = omega arith; so_far = sym (put_nothing old 0) }

  module _ {out : List ℕ} {i : ℕ} (g : Laying f w n old out i) where
    long : length (joined f i) ≡ i * w
    long = joined_length f w i (λ j h. g.each j)

    laying_length : length out ≡ length old
    laying_length =
        ap length g.so_far ∙ put_length old 0 (joined f i) (omega (arith, long, g.room, mul-le-mul_right w g.below))

    pub laying_room : i < n → i * w + w ≤ length out
    laying_room h = omega (arith, laying_length, g.room, mul-le-mul_right w (more h))
      where
        more : i < n → i + 1 ≤ n
        more h = omega arith

    pub laying_more : i < n → (s new : List ℕ) → s ≡ f i → new ≡ put out (i * w) s → Laying f w n old new (i + 1)
    laying_more h s new a b =
        record {
          each = g.each;
          room = g.room;
          below = omega arith;
          so_far =
              b ∙ ap (put out (i * w)) a
              ∙ ap (λ (x : List ℕ). put x (i * w) (f i)) g.so_far
              ∙ ap (λ (x : ℕ). put (put old 0 (joined f i)) x (f i)) (sym (zero-add (length (joined f i)) ∙ long))
              ∙ put_on old 0 (joined f i) (f i) (omega (arith, long, g.room, mul-le-mul_right w g.below))
              ∙ ap (put old 0) (sym (joined_more f i));
        }

    pub laying_end : n ≤ i → out ≡ put old 0 (joined f n)
    laying_end h = let e : i ≡ n = omega (arith, g.below) in g.so_far ∙ rw e
