-- The walk that copies the oldest records to the front of an output: the first i stand there, the rest is as it was. Its start, its step and its end.
-- Assumes nothing.
use Prim.Native.Nat.{ℕ, ◌+◌, ◌-◌, ◌*◌, ◌%◌, ◌≤◌, ◌<◌}
use mathlib.Core.Path.{◌≡◌, sym, ap, ◌∙◌}
use mathlib.Core.List.{List, flatten}
use native.Mathlib.Nat.{mod-lt}
use native.Mathlib.Omega.{arith}
use lib.ListN.{length, take, drop}
use Rattle.base.specs.Put.{put}
use Rattle.base.proofs.Laws.Put.{put_nothing}
use Rattle.ring_meaning.specs.Record.{RECORD}
use Rattle.ring_meaning.specs.Ring.{slots, slot, records_from}
use Rattle.ring_meaning.specs.Inner.Ring.{GoodRing}
use Rattle.ring_meaning.proofs.Laws.Ring.{slot_length, records_none, records_more, flat_more, flat_length, put_next}

pub record Copying (ring : List ℕ) (head n : ℕ) (old out : List ℕ) (i : ℕ) : Type 0 where
  pub good : GoodRing ring head n
  pub room : RECORD * n ≤ length old
  pub below : i ≤ n
  pub so_far : out ≡ put old 0 (flatten (records_from ring head i))

module _ (ring : List ℕ) (head n : ℕ) (old : List ℕ) where
  pub copying_start : GoodRing ring head n → RECORD * n ≤ length old → Copying ring head n old old 0
  copying_start g h = record { good = g; room = h; below = omega arith; so_far = sym (ap (put old 0) (records_none ring head) ∙ put_nothing old 0) }

  module _ {out : List ℕ} {i : ℕ} (p : Copying ring head n old out i) where
    -- the bytes from the slot's first on, as many as a record has
    lent : (k : ℕ) → k ≡ (head + i) % slots ring → (end : ℕ) → end ≡ RECORD * k + RECORD
        → take (end - RECORD * k) (drop (RECORD * k) ring) ≡ slot ring ((head + i) % slots ring)
    unfolding slot
    lent k e end f = let d : end - RECORD * k ≡ RECORD = omega arith in rw (d, e)

    pub copying_more : i < n → (k : ℕ) → k ≡ (head + i) % slots ring → (end : ℕ) → end ≡ RECORD * k + RECORD → (new : List ℕ)
        → new ≡ put out (RECORD * i) (take (end - RECORD * k) (drop (RECORD * k) ring))
        → Copying ring head n old new (i + 1)
    copying_more h k a end b new e =
        let l = flat_length ring p.good.size head i in
        let m = slot_length ring p.good.size ((head + i) % slots ring) (mod-lt (head + i) p.good.size.some) in
        record {
          good = p.good;
          room = p.room;
          below = omega arith;
          so_far =
              e
              ∙ ap (put out (RECORD * i)) (lent k a end b)
              ∙ ap (λ (x : List ℕ). put x (RECORD * i) (slot ring ((head + i) % slots ring))) p.so_far
              ∙ ap (λ (a : ℕ). put (put old 0 (flatten (records_from ring head i))) a (slot ring ((head + i) % slots ring))) (sym l)
              ∙ put_next old (flatten (records_from ring head i)) (slot ring ((head + i) % slots ring)) (omega (arith, l, m, p.room))
              ∙ sym (ap (put old 0) (ap flatten (records_more ring head i) ∙ flat_more (records_from ring head i) (slot ring ((head + i) % slots ring))));
        }

    pub copying_end : n ≤ i → out ≡ put old 0 (flatten (records_from ring head n))
    copying_end h = let e : i ≡ n = omega (arith, p.below) in p.so_far ∙ rw e
