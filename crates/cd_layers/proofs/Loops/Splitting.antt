-- The split under way: what `alpha_unicode_split` has done after i of n slots.
-- Assumes nothing.
use Prim.Native.Nat.{ℕ, ◌+◌, ◌≤◌, ◌<◌}
use mathlib.Core.Path.{◌≡◌, refl, sym, ap, ◌∙◌}
use mathlib.Core.List.{List, [], ◌∷◌, ◌++◌}
use native.Mathlib.Numerals.{add-one}
use lib.Arith.{lt_of_le-ne}
use native.Mathlib.Nat.{zero-add}
use native.Mathlib.Omega.{arith}
use lib.ListN.{length, get_or, set, take, drop, replicate, length-set, length-append, length-replicate, drop_of_length-le}
use lib.Seq.{set-get_or, take-suc-set, drop-cons, get_or-take, length-take-le, take_all}
use borrow.Author.Tests.{ne_eqb}
use Rattle.base.specs.Limits.{LAST_RANGE, RANGES}
use Rattle.base.specs.Put.{put}
use Rattle.base.proofs.Laws.Put.{put_nothing, put_more, put_after}
use Rattle.cd_layers.specs.Inner.Numbers.{layer_for, keys_with, numbers_from, keys_from, numbers, keys_of, Below}
use Rattle.cd_layers.proofs.Laws.Numbers.{layer_within, keys_old, keys_new, numbers_length, key_fresh, keys_start, keys_marks}
use Rattle.cd_layers.specs.Inner.Split.{Split}
use Rattle.cd_layers.proofs.Laws.Few.{Marks, marks_room, marks_few}
use Rattle.cd_layers.proofs.Loops.Looking.{below_more}

module _ (pairs : List ℕ) (n : ℕ) (w : List ℕ) where
  pub record Going (v keys : List ℕ) (c i : ℕ) : Type 0 where
    pub below : i ≤ n
    pub room : n ≤ length w
    pub ranges : Below (take n w)
    pub done : v ≡ put w 0 (take i (numbers pairs (take n w)))
    pub rest : numbers_from pairs (take c keys) (drop i (take n w)) ≡ drop i (numbers pairs (take n w))
    pub last : keys_from pairs (take c keys) (drop i (take n w)) ≡ keys_of pairs (take n w)
    pub wide : length keys ≡ LAST_RANGE
    pub marks : Marks RANGES (0 ∷ take c keys)
    pub count : c ≡ length (take c keys)
    pub small : Below (take c keys)

  pub going_start : n ≤ length w → Below (take n w) → Going w (replicate LAST_RANGE 0) 0 0
  going_start z r =
      record {
        below = omega arith;
        room = z;
        ranges = r;
        done = sym (put_nothing w 0);
        rest = refl;
        last = refl;
        wide = length-replicate {A = ℕ} LAST_RANGE 0;
        marks = keys_start pairs;
        count = refl;
        small = λ j. omega arith;
      }

  module _ {v keys : List ℕ} {c i : ℕ} (g : Going v keys c i) where
    all : length (numbers pairs (take n w)) ≡ n
    all = numbers_length pairs [] (take n w) ∙ length-take-le n w g.room

    done_length : length (take i (numbers pairs (take n w))) ≡ i
    done_length = length-take-le i (numbers pairs (take n w)) (omega (arith, all, g.below))

    pub going_few : c ≤ LAST_RANGE
    going_few = omega (arith, marks_few g.marks, g.count)

    pub going_end : n ≤ i → Split pairs n w v c
    unfolding numbers_from keys_from
    going_end h =
        let d : drop i (take n w) ≡ [] = drop_of_length-le (take n w) {i = i} (omega (arith, length-take-le n w g.room)) in
        let k : take c keys ≡ keys_of pairs (take n w) = rw d at g.last in
        record {
          numbers = g.done ∙ ap (put w 0) (take_all i (numbers pairs (take n w)) (omega (arith, all)));
          count = g.count ∙ ap length k;
        }

  module _ {v keys : List ℕ} {c i : ℕ} (g : Going v keys c i) (h : i < n) where
    here : drop i (take n w) ≡ get_or w i 0 ∷ drop (i + 1) (take n w)
    here =
        let l : i < length (take n w) = omega (arith, length-take-le n w g.room) in
        rw (add-one i, ← get_or-take n w i 0 h) (drop-cons (take n w) i 0 l)

    wide_enough : i < length (numbers pairs (take n w))
    wide_enough = omega (arith, all g)

    -- the range of the slot i still stands there
    pub going_here : get_or v i 0 ≡ get_or w i 0
    going_here =
        let s = take i (numbers pairs (take n w)) in
        let k : 0 + length s + 0 ≡ i = omega (arith, done_length g) in
        rw g.done (rw k at (put_after w 0 s (omega (arith, done_length g, g.room)) 0 0))

    pub going_range : get_or v i 0 ≤ LAST_RANGE
    going_range = rw (going_here, ← get_or-take n w i 0 h) (g.ranges i)

    next : get_or (numbers pairs (take n w)) i 0 ∷ drop (i + 1) (numbers pairs (take n w)) ≡ drop i (numbers pairs (take n w))
    next = rw (add-one i) (sym (drop-cons (numbers pairs (take n w)) i 0 wide_enough))

    -- the number m is stored, and the keys are those of ks
    stored : (m : ℕ) (ks : List ℕ) → m ∷ numbers_from pairs ks (drop (i + 1) (take n w)) ≡ drop i (numbers pairs (take n w))
        → set v i m ≡ put w 0 (take (i + 1) (numbers pairs (take n w)))
    stored m ks e =
        let f : m ≡ get_or (numbers pairs (take n w)) i 0 = cc (next) in
        let l : 0 + length (numbers pairs (take n w)) ≤ length w = omega (arith, all g, g.room) in
        rw (g.done, f) (rw zero-add at (put_more w 0 (numbers pairs (take n w)) i l wide_enough 0))

    onward : (m : ℕ) (ks : List ℕ) → m ∷ numbers_from pairs ks (drop (i + 1) (take n w)) ≡ drop i (numbers pairs (take n w))
        → numbers_from pairs ks (drop (i + 1) (take n w)) ≡ drop (i + 1) (numbers pairs (take n w))
    onward m ks e = cc (next)

    -- a slot of no range
    pub going_skip : get_or v i 0 ≡ 0 → Going v keys c (i + 1)
    unfolding numbers_from keys_from
    going_skip e =
        let b : get_or w i 0 ≡ 0 = sym going_here ∙ e in
        let t : 0 ∷ numbers_from pairs (take c keys) (drop (i + 1) (take n w)) ≡ drop i (numbers pairs (take n w)) =
        (rw (here, b) at g.rest) in
        let f : set v i 0 ≡ v = rw (← e) (set-get_or v i 0) in
        record {
          below = omega arith;
          room = g.room;
          ranges = g.ranges;
          done = sym f ∙ stored 0 (take c keys) t;
          rest = onward 0 (take c keys) t;
          last = rw (here, b) at g.last;
          wide = g.wide;
          marks = g.marks;
          count = g.count;
          small = g.small;
        }

    module _ {b j : ℕ} (e : b ≡ get_or v i 0) (k : b ≡ 0 → ⊥) (p : j ≡ layer_for pairs (take c keys) b) where
      is_b : get_or w i 0 ≡ b
      is_b = sym going_here ∙ sym e

      number : (j + 1) ∷ numbers_from pairs (keys_with pairs (take c keys) b) (drop (i + 1) (take n w)) ≡ drop i (numbers pairs (take n w))
      unfolding numbers_from
      number = rw p (rw (here, is_b, ne_eqb b 0 k) at g.rest)

      later : keys_from pairs (keys_with pairs (take c keys) b) (drop (i + 1) (take n w)) ≡ keys_of pairs (take n w)
      unfolding keys_from
      later = rw (here, is_b, ne_eqb b 0 k) at g.last

      pub going_within : j ≤ c
      going_within = omega (arith, p, layer_within pairs (take c keys) b, g.count)

      -- a layer that is there
      pub going_old : (j ≡ c → ⊥) → Going (set v i (j + 1)) keys c (i + 1)
      going_old q =
          let l : layer_for pairs (take c keys) b < length (take c keys) = lt_of_le-ne (layer_within pairs (take c keys) b) (λ y. q (p ∙ y ∙ sym g.count)) in
          let y : keys_with pairs (take c keys) b ≡ take c keys = keys_old pairs (take c keys) b l in
          let t : (j + 1) ∷ numbers_from pairs (take c keys) (drop (i + 1) (take n w)) ≡ drop i (numbers pairs (take n w)) = rw y at number in
          record {
            below = omega arith;
            room = g.room;
            ranges = g.ranges;
            done = stored (j + 1) (take c keys) t;
            rest = onward (j + 1) (take c keys) t;
            last = rw y at later;
            wide = g.wide;
            marks = g.marks;
            count = g.count;
            small = g.small;
          }

      module _ (q : j ≡ c) where
        r : b ≤ LAST_RANGE
        r = omega (arith, e, going_range)

        l : length (take c keys) ≤ layer_for pairs (take c keys) b
        l = omega (arith, p, q, g.count)

        pub going_room : c < LAST_RANGE
        going_room = omega (arith, marks_room g.marks b (omega (arith, r)) (key_fresh pairs (take c keys) b k l), g.count)

        made : take (c + 1) (set keys c b) ≡ take c keys ++ (b ∷ [])
        made = let h : c < length keys = omega (arith, going_room, g.wide) in rw (add-one c, take-suc-set keys c b h)

        pub going_new : Going (set v i (j + 1)) (set keys c b) (c + 1) (i + 1)
        going_new =
            let y : keys_with pairs (take c keys) b ≡ take (c + 1) (set keys c b) = keys_new pairs (take c keys) b l ∙ sym made in
            let t : (j + 1) ∷ numbers_from pairs (take (c + 1) (set keys c b)) (drop (i + 1) (take n w)) ≡ drop i (numbers pairs (take n w)) = rw y at number in
            record {
              below = omega arith;
              room = g.room;
              ranges = g.ranges;
              done = stored (j + 1) (take (c + 1) (set keys c b)) t;
              rest = onward (j + 1) (take (c + 1) (set keys c b)) t;
              last = rw y at later;
              wide = length-set keys c b ∙ g.wide;
              marks = rw y at (keys_marks pairs (take c keys) b g.marks k r);
              count = rw made (omega (arith, length-append (take c keys) (b ∷ []), g.count));
              small = rw made (below_more (take c keys) b g.small r);
            }
