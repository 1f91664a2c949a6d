-- The place of a record's letters among those before it, found by the links: none (`among_none`), that of the same letters (`among_old`), and the next
-- (`among_new`); and what the rooms are once the record was gathered (`gathered_old`, `gathered_new`). The links are those of the list that packing
-- ends with, of which the room of letters has the front.
-- Assumes nothing.
use Prim.Native.Nat.{ℕ, ◌+◌, ◌-◌, ◌*◌, ◌≤◌, ◌<◌}
use mathlib.Core.Path.{◌≡◌, refl, sym, ap, ◌∙◌}
use mathlib.Core.Bool.{true, false}
use mathlib.Core.List.{List}
use native.Mathlib.Omega.{arith}
use lib.ListN.{get_or, set, take, drop}
use Rattle.base.specs.Limits.{CLASS_RECORD, MOST_CLASSES}
use Rattle.base.specs.Put.{put}
use Rattle.base.proofs.Laws.Put.{put_nothing}
use Rattle.class_records.specs.Records.{records, record_at}
use Rattle.class_compact_meaning.specs.Form.{COMPACT_RECORD, LETTERS_RECORD, LETTERS_AT, letters_in, base_at, lower_at}
use Rattle.class_compact_meaning.specs.Packed.{plain, is_new, new_letters, letters_before, packed_place, compacted, packed_letters}
use Rattle.class_compact_meaning.specs.Inner.Gathered.{Placed, Among, Gathered}
use Rattle.class_compact_meaning.specs.Inner.Links.{Linked, Slot}
use Rattle.class_compact_meaning.proofs.Laws.Form.{bytes_slice}
use Rattle.class_compact_meaning.proofs.Laws.Links.{linked_same, walked_same, linked_more}
use Rattle.class_compact_meaning.proofs.Laws.Numbering.{number_few, number_old, number_new, number_past, letters_new, base_put, lower_put, letter_from}
use Rattle.class_compact_meaning.proofs.Laws.Numbering.{place_none, place_found, new_past, old_within, base_front, lower_front}

module _ (t : List ℕ) (i count : ℕ) (used links : List ℕ) (g : Placed t i used count links) where
  same : (k : ℕ) → k < count → (base_at (packed_letters t) k ≡ base_at used k) × (lower_at (packed_letters t) k ≡ lower_at used k)
  unfolding packed_letters
  same k h =
      let r = letter_from t i k (omega (arith, g.number)) in
      let n = r.number in (
        ap (base_at (letters_before t (records t))) (sym n) ∙ base_put t r.at (records t) r.new (omega (arith, r.below, g.inside))
            ∙ sym (base_front t i count used links g k h ∙ ap (base_at (letters_before t i)) (sym n) ∙ base_put t r.at i r.new r.below),
        ap (lower_at (letters_before t (records t))) (sym n) ∙ lower_put t r.at (records t) r.new (omega (arith, r.below, g.inside))
            ∙ sym (lower_front t i count used links g k h ∙ ap (lower_at (letters_before t i)) (sym n) ∙ lower_put t r.at i r.new r.below),
      )

  pub among_few : count < MOST_CLASSES
  among_few = omega (arith, g.number, number_few t i, g.inside, g.few)

  -- of the room of letters
  pub among_linked : Linked used count links
  among_linked = linked_same (packed_letters t) used count same links g.linked.small (omega (arith, among_few, g.room)) g.linked

  old : (place : ℕ) → place ≡ packed_place t i → place ≤ count → Among t i count place links
  old place e h =
      let z : is_new t i ≡ false = old_within t i (omega (arith, g.number)) in
      record { is = e; few = omega arith; linked = rw (number_old t i z, ← g.number) g.linked }

  pub among_none : plain t i ≡ true → Among t i count 0 links
  among_none e = old 0 (place_none t i e) (omega arith)

  module _ (base lower slot : ℕ) (p : plain t i ≡ false) (b : base ≡ (record_at t i).base) (w : lower ≡ (record_at t i).lower)
      (s : Slot used count base lower links slot) where
    pub among_old : (get_or links slot 0 ≡ 0 → ⊥) → Among t i count (get_or links slot 0) links
    among_old a =
        old (get_or links slot 0) (s.some a ∙ place_found t i count used links g _ base lower p b w refl) (g.linked.small slot)

    -- where the list that packing ends with has them
    module _ (new : is_new t i ≡ true) where
      base_there : base_at (packed_letters t) count ≡ base
      unfolding packed_letters
      base_there = rw (g.number, b) (base_put t i (records t) new g.inside)

      lower_there : lower_at (packed_letters t) count ≡ lower
      unfolding packed_letters
      lower_there = rw (g.number, w) (lower_put t i (records t) new g.inside)

      known : count < letters_in (packed_letters t)
      unfolding packed_letters
      known = omega (arith, g.number, number_past t i (records t) new g.inside)

      noted : get_or links slot 0 ≡ 0 → Linked (packed_letters t) (count + 1) (set links slot (count + 1))
      noted =
          linked_more (packed_letters t) links count slot g.linked among_few known
          (rw (base_there, lower_there)
          (walked_same used (packed_letters t) count (λ k h. (sym (same k h).0, sym (same k h).1)) links g.linked.small base lower slot s.walked))

    pub among_new : get_or links slot 0 ≡ 0 → Among t i count (count + 1) (set links slot (count + 1))
    among_new a =
        let is : count + 1 ≡ packed_place t i = place_found t i count used links g count base lower p b w (sym (s.none a)) in
        let new : is_new t i ≡ true = new_past t i g.inside (omega (arith, g.number)) in
        record { is = is; few = omega arith; linked = rw (number_new t i new, ← g.number) (noted new a) }

  -- ---- the rooms once the record was gathered
  module _ (place : ℕ) (links' : List ℕ) (a : Among t i count place links') (packed packed' s : List ℕ) (e : s ≡ compacted t i)
      (laid : packed' ≡ put packed (i * COMPACT_RECORD) s) where
    pub gathered_old : place ≤ count → Gathered t i packed used count packed' used count links'
    unfolding new_letters
    gathered_old h =
        let z : is_new t i ≡ false = old_within t i (omega (arith, a.is, g.number)) in
        record {
          records = laid ∙ ap (put packed (i * COMPACT_RECORD)) e;
          letters = rw z (sym (put_nothing used (count * LETTERS_RECORD)));
          number = g.number ∙ sym (number_old t i z);
          linked = a.linked;
        }

    pub gathered_new : count < place → (used' : List ℕ)
        → used' ≡ put used (count * LETTERS_RECORD)
        (take (i * CLASS_RECORD + LETTERS_AT + LETTERS_RECORD - (i * CLASS_RECORD + LETTERS_AT)) (drop (i * CLASS_RECORD + LETTERS_AT) t))
        → Gathered t i packed used count packed' used' place links'
    gathered_new h used' m =
        let new : is_new t i ≡ true = new_past t i g.inside (omega (arith, a.is, g.number)) in
        let z : i * CLASS_RECORD + LETTERS_AT + LETTERS_RECORD - (i * CLASS_RECORD + LETTERS_AT) ≡ LETTERS_RECORD = omega arith in
        record {
          records = laid ∙ ap (put packed (i * COMPACT_RECORD)) e;
          letters =
              m ∙ rw (z, bytes_slice t (i * CLASS_RECORD + LETTERS_AT) LETTERS_RECORD (omega (arith, g.inside)), letters_new t i new);
          number = omega (arith, a.few, g.number, number_new t i new);
          linked = a.linked;
        }
