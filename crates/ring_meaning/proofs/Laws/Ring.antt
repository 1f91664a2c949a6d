-- A ring's slots: their length (`slot_length`), what putting a record into one changes of it and of the others (`slot_put`, `slot_other`); the records from
-- a slot on: one more, some and then some, from a slot's number taken modulo the size (`records_more`, `_split`, `_wrap`); and that putting a
-- record into the slot behind the newest appends it (`records_appended`). `put_next` is a law of base's `put`.
-- Assumes nothing.
use Prim.Native.Nat.{ℕ, zero, suc, ◌+◌, ◌-◌, ◌*◌, ◌%◌, ◌≤◌, ◌<◌}
use mathlib.Core.Path.{◌≡◌, refl, sym, ap, ◌∙◌}
use mathlib.Core.List.{List, [], ◌∷◌, ◌++◌, append-nil, append_assoc, flatten}
use native.Mathlib.Nat.{add-zero, zero-add, suc-add, mod-lt, mod-mod, mod-add-mod, mod-eq_of_lt, mod-eq-sub-mod}
use native.Mathlib.Omega.{arith}
use lib.ListN.{length, take, drop, length-append, length-drop}
use lib.Seq.{length-take-le, take-add, take-append_seam, drop_at}
use Rattle.base.specs.Put.{put}
use Rattle.base.proofs.Laws.Put.{put_length, put_front, put_beyond, put_part, put_first}
use Rattle.base.proofs.Laws.Tests.{split}
use Rattle.ring_meaning.specs.Record.{RECORD}
use Rattle.ring_meaning.specs.Ring.{MOST_SLOTS, slots, slot, records_from}
use Rattle.ring_meaning.specs.Inner.Ring.{GoodSize, GoodRing}

put_is : (w : List ℕ) (i : ℕ) (s : List ℕ) → put w i s ≡ take i w ++ (s ++ drop (i + length s) w)
unfolding put
put_is w i s = refl

part_is : (l : List ℕ) (n d : ℕ) → n ≤ length l → drop n (take (n + d) l) ≡ take d (drop n l)
part_is l n d h = ap (drop n) (take-add n d l) ∙ drop_at (take n l) (take d (drop n l)) n (length-take-le n l h)

-- a number below twice the size, modulo the size
mod_cases : {A : Type 0} (a s : ℕ) → a < s + s → (a < s → a % s ≡ a → A) → (s ≤ a → a % s ≡ a - s → A) → A
mod_cases a s h p q = split a s (λ l. p l (mod-eq_of_lt l)) (λ l. q l (mod-eq-sub-mod l ∙ mod-eq_of_lt (omega arith)))

-- fewer than the size apart, two slots differ
mod_apart : (head i count s : ℕ) → head < s → count < s → i < count → (head + i) % s ≡ (head + count) % s → ⊥
mod_apart head i count s a b l e =
    mod_cases (head + i) s (omega arith)
    (λ x p. mod_cases (head + count) s (omega arith) (λ y q. omega arith) (λ y q. omega arith))
    (λ x p. mod_cases (head + count) s (omega arith) (λ y q. omega arith) (λ y q. omega arith))

module _ (ring : List ℕ) (g : GoodSize ring) where
  -- the bytes of a slot stand inside
  pub slot_inside : (k : ℕ) → k < slots ring → RECORD * k + RECORD ≤ length ring
  slot_inside k h = omega (arith, g.whole)

  -- a slot's number is small
  pub slot_small : (a : ℕ) {k : ℕ} → k ≡ a % slots ring → k ≤ MOST_SLOTS
  slot_small a e = omega (arith, e, mod-lt a g.some, g.few)

  pub slot_length : (k : ℕ) → k < slots ring → length (slot ring k) ≡ RECORD
  unfolding slot
  slot_length k h = length-take-le RECORD (drop (RECORD * k) ring) (omega (arith, length-drop (RECORD * k) ring, slot_inside k h))

  module _ (r : List ℕ) (n : length r ≡ RECORD) (j : ℕ) (h : j < slots ring) where
    fits : RECORD * j + length r ≤ length ring
    fits = omega (arith, slot_inside j h)

    pub slots_same : slots (put ring (RECORD * j) r) ≡ slots ring
    slots_same = rw (put_length ring (RECORD * j) r fits)

    pub length_same : length (put ring (RECORD * j) r) ≡ length ring
    length_same = put_length ring (RECORD * j) r fits

    pub slot_put : slot (put ring (RECORD * j) r) j ≡ r
    unfolding slot
    slot_put = rw n at (put_part ring (RECORD * j) r fits)

    -- a slot before it, and one behind it
    pub slot_before : (k : ℕ) → k < j → slot (put ring (RECORD * j) r) k ≡ slot ring k
    unfolding slot
    slot_before k l =
        sym (part_is (put ring (RECORD * j) r) (RECORD * k) RECORD (omega (arith, put_length ring (RECORD * j) r fits)))
        ∙ ap (drop (RECORD * k)) (put_front ring (RECORD * j) r fits (RECORD * k + RECORD) (omega arith))
        ∙ part_is ring (RECORD * k) RECORD (omega arith)

    pub slot_behind : (k : ℕ) → j < k → slot (put ring (RECORD * j) r) k ≡ slot ring k
    unfolding slot
    slot_behind k l = ap (take RECORD) (put_beyond ring (RECORD * j) r fits (RECORD * k) (omega arith))

    pub slot_other : (k : ℕ) → (k ≡ j → ⊥) → slot (put ring (RECORD * j) r) k ≡ slot ring k
    slot_other k ne = split k j (λ a. slot_before k a) (λ a. split j k (λ b. slot_behind k b) (λ b. absurd (ne (omega arith))))

    -- records of other slots stay
    pub records_put : (at n : ℕ) → ((i : ℕ) → i < n → (at + i) % slots ring ≡ j → ⊥)
        → records_from (put ring (RECORD * j) r) at n ≡ records_from ring at n
    unfolding records_from
    records_put at zero ne = refl
    records_put at (suc n) ne =
        rw (slots_same, slot_other (at % slots ring) (λ e. ne 0 (omega arith) (rw (add-zero at) e)))
        (ap (λ (l : List (List ℕ)). slot ring (at % slots ring) ∷ l)
        (records_put (at + 1) n (λ i h e. ne (suc i) (omega arith) (shifted i e))))
      where
        shifted : (i : ℕ) → (at + 1 + i) % slots ring ≡ j → (at + suc i) % slots ring ≡ j
        shifted i e = let s : at + suc i ≡ at + 1 + i = omega arith in rw s e

module _ (ring : List ℕ) where
  pub records_none : (at : ℕ) → flatten (records_from ring at 0) ≡ []
  unfolding records_from flatten
  records_none at = refl

  -- one record more
  pub records_more : (at n : ℕ) → records_from ring at (n + 1) ≡ records_from ring at n ++ (slot ring ((at + n) % slots ring) ∷ [])
  unfolding records_from
  records_more at zero = rw (add-zero at)
  records_more at (suc n) =
      let s : at + suc n ≡ at + 1 + n = omega arith in
      rw (suc-add n 1, s) (ap (λ (l : List (List ℕ)). slot ring (at % slots ring) ∷ l) (records_more (at + 1) n))

  -- some, and then some
  pub records_split : (at m n : ℕ) → records_from ring at (m + n) ≡ records_from ring at m ++ records_from ring (at + m) n
  unfolding records_from
  records_split at zero n = rw (zero-add n, add-zero at)
  records_split at (suc m) n =
      let s : at + suc m ≡ at + 1 + m = omega arith in
      rw (suc-add m n, s) (ap (λ (l : List (List ℕ)). slot ring (at % slots ring) ∷ l) (records_split (at + 1) m n))

  -- from a slot's number taken modulo the size
  pub records_wrap : (at n : ℕ) → records_from ring (at % slots ring) n ≡ records_from ring at n
  unfolding records_from
  records_wrap at zero = refl
  records_wrap at (suc n) =
      rw (mod-mod at (slots ring))
      (ap (λ (l : List (List ℕ)). slot ring (at % slots ring) ∷ l)
      (sym (records_wrap (at % slots ring + 1) n) ∙ ap (λ (a : ℕ). records_from ring a n) (mod-add-mod at (slots ring) 1) ∙ records_wrap (at + 1) n))

  pub records_count : (at n : ℕ) → length (records_from ring at n) ≡ n
  unfolding records_from
  records_count at zero = refl
  records_count at (suc n) = ap suc (records_count (at + 1) n)

-- the bytes of the slot behind the newest record stand inside
pub free_inside : (ring : List ℕ) (head count : ℕ) → GoodRing ring head count → (k : ℕ) → k ≡ (head + count) % slots ring
    → RECORD * k + RECORD ≤ length ring
free_inside ring head count g k e = slot_inside ring g.size k (rw e (mod-lt (head + count) g.size.some))

-- "Putting appends"
pub records_appended : (ring : List ℕ) (head count : ℕ) → GoodRing ring head count → count < slots ring → (r : List ℕ) → length r ≡ RECORD
    → records_from (put ring (RECORD * ((head + count) % slots ring)) r) head (count + 1) ≡ records_from ring head count ++ (r ∷ [])
records_appended ring head count g h r n =
    let j = (head + count) % slots ring in
    let l : j < slots ring = mod-lt (head + count) g.size.some in
    records_more (put ring (RECORD * j) r) head count
    ∙ ap (λ (x : List (List ℕ)). x ++ (slot (put ring (RECORD * j) r) ((head + count) % slots (put ring (RECORD * j) r)) ∷ []))
    (records_put ring g.size r n j l head count (λ i k e. mod_apart head i count (slots ring) g.inside h k e))
    ∙ rw (slots_same ring g.size r n j l, slot_put ring g.size r n j l)

-- ---- records one behind the other as bytes
pub flat_more : (l : List (List ℕ)) (x : List ℕ) → flatten (l ++ (x ∷ [])) ≡ flatten l ++ x
unfolding flatten
flat_more [] x = append-nil x
flat_more (y ∷ l) x = rw (flat_more l x) (sym (append_assoc y (flatten l) x))

pub flat_length : (ring : List ℕ) → GoodSize ring → (at n : ℕ) → length (flatten (records_from ring at n)) ≡ RECORD * n
unfolding flatten records_from
flat_length ring g at zero = refl
flat_length ring g at (suc n) =
    length-append (slot ring (at % slots ring)) (flatten (records_from ring (at + 1) n))
    ∙ omega (arith, slot_length ring g (at % slots ring) (mod-lt at g.some), flat_length ring g (at + 1) n)

-- put behind what was put into the first places
pub put_next : (w a b : List ℕ) → length a + length b ≤ length w → put (put w 0 a) (length a) b ≡ put w 0 (a ++ b)
put_next w a b h =
    opened
    ∙ ap (λ (x : List ℕ). x ++ (b ++ drop (length a + length b) (put w 0 a))) (ap (take (length a)) (put_first w a) ∙ take-append_seam a (drop (length a) w))
    ∙ ap (λ (x : List ℕ). a ++ (b ++ x)) (put_beyond w 0 a (omega arith) (length a + length b) (omega arith))
    ∙ rw (put_first w (a ++ b), length-append a b) (sym (append_assoc a b (drop (length a + length b) w)))
  where
    opened : put (put w 0 a) (length a) b ≡ take (length a) (put w 0 a) ++ (b ++ drop (length a + length b) (put w 0 a))
    opened = put_is (put w 0 a) (length a) b
