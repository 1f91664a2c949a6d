-- The passes under way: the state is that after i characters, and the indexes below i at which the numerator grows are counted (`Counting`), or stand in the first places of the output
-- (`Filling`). Each with its start, its step and its end. Assumes nothing.
use Prim.Native.Nat.{ℕ, ◌+◌, ◌≤◌, ◌<◌}
use mathlib.Core.Path.{◌≡◌, sym, ap, ◌∙◌}
use mathlib.Core.Bool.{Bool, true, false}
use mathlib.Core.List.{List, [], ◌∷◌, ◌++◌}
use native.Mathlib.Nat.{add-zero, zero-add}
use native.Mathlib.Omega.{arith}
use lib.ListN.{length, set, length-append}
use Rattle.base.specs.Numbers.{bump}
use Rattle.base.specs.Put.{put}
use Rattle.base.proofs.Laws.Put.{put_length, put_more, put_nothing, put_on}
use Rattle.cd_order.specs.Chosen.{passing}
use Rattle.cd_order.proofs.Laws.Chosen.{chosen_none, chosen_few}
use Rattle.md_growth.specs.declared.Watched.{Watched}
use Rattle.md_growth.specs.Growth.{start}
use Rattle.md_growth.specs.Text.{grows, watched_at}
use Rattle.md_growth.proofs.Laws.Growth.{watched_start}
use Rattle.md_reason_meaning.proofs.Laws.Indexes.{passing_hit, passing_miss, passing_count, passing_fewer}

module _ (classes pairs text : List ℕ) (d n : ℕ) where
  pub record Counting (w : Watched) (count i : ℕ) : Type 0 where
    pub below : i ≤ n
    pub state : w ≡ watched_at classes pairs text i
    pub counted : count ≡ length (passing (grows classes pairs text d) i)

  pub counting_start : (w : Watched) → w ≡ start → Counting w 0 0
  counting_start w e =
      record { below = omega arith; state = e ∙ sym (watched_start classes pairs text); counted = sym (ap length (chosen_none (grows classes pairs text d))) }

  module _ {w : Watched} {count i : ℕ} (g : Counting w count i) where
    pub counting_few : count ≤ i
    counting_few = omega (arith, g.counted, chosen_few (grows classes pairs text d) i)

    pub counting_more : i < n → (v : Watched) → v ≡ watched_at classes pairs text (i + 1) → (b : Bool) → b ≡ grows classes pairs text d i
        → (m : ℕ) → m ≡ bump b → Counting v (count + m) (i + 1)
    counting_more h v e b t m k =
        record {
          below = omega arith;
          state = e;
          counted = rw (g.counted, k, t) (sym (passing_count (grows classes pairs text d) i));
        }

    pub counting_end : n ≤ i → count ≡ length (passing (grows classes pairs text d) n)
    counting_end h = let e : n ≡ i = omega (arith, g.below) in rw e g.counted

-- one element stored is one element put
set_put : (v : List ℕ) (k x : ℕ) → k < length v → set v k x ≡ put v k (x ∷ [])
set_put v k x h = rw (put_nothing v k, add-zero) at (put_more v k (x ∷ []) 0 (omega arith) (omega arith) 0)

-- an element stored right behind a list that was put into the first places
put_behind : (out l : List ℕ) (x : ℕ) → length l < length out → set (put out 0 l) (length l) x ≡ put out 0 (l ++ (x ∷ []))
put_behind out l x h =
    set_put (put out 0 l) (length l) x (omega (arith, put_length out 0 l (omega arith)))
    ∙ (rw zero-add at (put_on out 0 l (x ∷ []) (omega arith)))

module _ (classes pairs text : List ℕ) (d n : ℕ) (out : List ℕ) where
  pub record Filling (after : List ℕ) (w : Watched) (k i : ℕ) : Type 0 where
    pub below : i ≤ n
    pub room : length (passing (grows classes pairs text d) n) ≤ length out
    pub state : w ≡ watched_at classes pairs text i
    pub counted : k ≡ length (passing (grows classes pairs text d) i)
    pub so_far : after ≡ put out 0 (passing (grows classes pairs text d) i)

  pub filling_start : length (passing (grows classes pairs text d) n) ≤ length out → (w : Watched) → w ≡ start → Filling out w 0 0
  filling_start r w e =
      record {
        below = omega arith;
        room = r;
        state = e ∙ sym (watched_start classes pairs text);
        counted = sym (ap length (chosen_none (grows classes pairs text d)));
        so_far = rw (chosen_none (grows classes pairs text d)) (sym (put_nothing out 0));
      }

  module _ {after : List ℕ} {w : Watched} {k i : ℕ} (g : Filling after w k i) where
    fits : length (passing (grows classes pairs text d) i) ≤ length out
    fits = omega (arith, g.room, passing_fewer (grows classes pairs text d) i n g.below)

    pub filling_length : length after ≡ length out
    filling_length = ap length g.so_far ∙ put_length out 0 (passing (grows classes pairs text d) i) (omega (arith, fits))

    pub filling_few : k ≤ i
    filling_few = omega (arith, g.counted, chosen_few (grows classes pairs text d) i)

    module _ (h : i < n) (v : Watched) (e : v ≡ watched_at classes pairs text (i + 1)) where
      hit_room : grows classes pairs text d i ≡ true → length (passing (grows classes pairs text d) i) < length out
      hit_room t =
          omega (
            arith,
            g.room,
            ap length (passing_hit (grows classes pairs text d) i t),
            length-append (passing (grows classes pairs text d) i) (i ∷ []),
            passing_fewer (grows classes pairs text d) (i + 1) n (omega arith),
          )

      pub filling_room : grows classes pairs text d i ≡ true → k < length after
      filling_room t = omega (arith, filling_length, g.counted, hit_room t)

      pub filling_hit : grows classes pairs text d i ≡ true → Filling (set after k i) v (k + 1) (i + 1)
      filling_hit t =
          record {
            below = omega arith;
            room = g.room;
            state = e;
            counted =
                omega (arith, g.counted, ap length (passing_hit (grows classes pairs text d) i t), length-append (passing (grows classes pairs text d) i) (i ∷ []));
            so_far = rw (g.so_far, g.counted, passing_hit (grows classes pairs text d) i t) (put_behind out (passing (grows classes pairs text d) i) i (hit_room t));
          }

      pub filling_miss : grows classes pairs text d i ≡ false → Filling after v k (i + 1)
      filling_miss t =
          record {
            below = omega arith;
            room = g.room;
            state = e;
            counted = rw (passing_miss (grows classes pairs text d) i t) g.counted;
            so_far = rw (passing_miss (grows classes pairs text d) i t) g.so_far;
          }

    pub filling_end : n ≤ i → after ≡ put out 0 (passing (grows classes pairs text d) n)
    filling_end h = let e : n ≡ i = omega (arith, g.below) in rw e g.so_far
