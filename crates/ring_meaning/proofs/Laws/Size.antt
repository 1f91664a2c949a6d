-- What the tests of a ring tell: `good_size`, `good_ring`; and that what is not refused is good, the other way round: `size_good`, `ring_good`.
-- Assumes nothing.
use Prim.Native.Nat.{ℕ, ◌%◌, ◌≤◌}
use mathlib.Core.Path.{◌≡◌, refl}
use mathlib.Core.Bool.{Bool, true, false, not, ◌||◌}
use mathlib.Core.List.{List}
use native.Mathlib.Omega.{arith}
use lib.Dec.{eqb, ltb}
use lib.ListN.{length}
use borrow.Author.Tests.{eqb-true, ltb-true, ltb-false, not-false, lt-ltb, le-ltb, eq-eqb}
use Rattle.ring_meaning.specs.Record.{RECORD}
use Rattle.ring_meaning.specs.Ring.{MOST_SLOTS, slots, wrong_size, wrong_ring}
use Rattle.ring_meaning.specs.Inner.Ring.{GoodSize, GoodRing}

-- neither of two tests holds
neither_l : (a b : Bool) → a || b ≡ false → a ≡ false
neither_l true b e = e
neither_l false b e = refl

neither_r : (a b : Bool) → a || b ≡ false → b ≡ false
neither_r true b e = cc
neither_r false b e = e

pub good_size : (ring : List ℕ) → wrong_size ring ≡ false → GoodSize ring
unfolding wrong_size
good_size ring e =
    let a = eqb-true (length ring % RECORD) 0 (not-false (eqb (length ring % RECORD) 0) (neither_l _ _ e)) in
    let b = neither_r (not (eqb (length ring % RECORD) 0)) (ltb (slots ring) 1 || ltb MOST_SLOTS (slots ring)) e in
    record {
      whole = omega (arith, a);
      some = omega (arith, ltb-false (slots ring) 1 (neither_l _ _ b));
      few = ltb-false MOST_SLOTS (slots ring) (neither_r (ltb (slots ring) 1) (ltb MOST_SLOTS (slots ring)) b);
    }

pub good_ring : (ring : List ℕ) (head count : ℕ) → wrong_ring ring head count ≡ false → GoodRing ring head count
unfolding wrong_ring
good_ring ring head count e =
    let b = neither_r (wrong_size ring) (not (ltb head (slots ring)) || ltb (slots ring) count) e in
    record {
      size = good_size ring (neither_l _ _ e);
      inside = ltb-true head (slots ring) (not-false (ltb head (slots ring)) (neither_l _ _ b));
      held = ltb-false (slots ring) count (neither_r (not (ltb head (slots ring))) (ltb (slots ring) count) b);
    }

pub size_good : (ring : List ℕ) → GoodSize ring → wrong_size ring ≡ false
unfolding wrong_size
size_good ring g =
    let a : length ring % RECORD ≡ 0 = omega (arith, g.whole) in
    rw (eq-eqb (length ring % RECORD) 0 a, le-ltb (slots ring) 1 g.some, le-ltb MOST_SLOTS (slots ring) g.few)

pub ring_good : (ring : List ℕ) (head count : ℕ) → GoodRing ring head count → wrong_ring ring head count ≡ false
unfolding wrong_ring
ring_good ring head count g =
    rw (size_good ring g.size, lt-ltb head (slots ring) g.inside, le-ltb (slots ring) count g.held)

pub good_fewer : (ring : List ℕ) (head count n : ℕ) → GoodRing ring head count → n ≤ count → GoodRing ring head n
good_fewer ring head count n g h = record { size = g.size; inside = g.inside; held = omega (arith, g.held) }

-- whether a ring is good hangs on how many bytes it has
pub good_length : (a b : List ℕ) (head count : ℕ) → length a ≡ length b → GoodRing b head count → GoodRing a head count
good_length a b head count e g =
    record {
      size = record { whole = rw e g.size.whole; some = rw e g.size.some; few = rw e g.size.few };
      inside = rw e g.inside;
      held = rw e g.held;
    }
