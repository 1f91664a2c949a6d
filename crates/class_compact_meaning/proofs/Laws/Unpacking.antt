-- A good compact table's expansion is a good table (`unpacked_good`), and packed it is the compact table again (`records_back`, `letters_back`).
-- Assumes nothing.
use Rattle.std.specs.Prelude.{Ok}
use Prim.Native.Nat.{ℕ, zero, suc, ◌+◌, ◌-◌, ◌*◌, ◌/◌, ◌%◌, ◌≤◌, ◌<◌}
use mathlib.Core.Path.{◌≡◌, refl, sym, ap, ◌∙◌}
use mathlib.Core.Bool.{true, false}
use mathlib.Core.List.{List, ◌∷◌, ◌++◌}
use native.Mathlib.Nat.{zero-add}
use native.Mathlib.Omega.{arith}
use lib.ListN.{length, get_or-append}
use borrow.Author.Tests.{eq-eqb, ne_eqb, leb-true, lt-ltb, le-ltb}
use Rattle.base.specs.First.{first}
use Rattle.base.specs.Limits.{CLASS_RECORD}
use Rattle.base.specs.Tests.{within}
use Rattle.base.proofs.Laws.Tests.{split, within_yes}
use Rattle.class_records.specs.Records.{records, record_at, good_table}
use Rattle.classes.proofs.Laws.Check.{free_good}
use Rattle.class_compact_meaning.specs.Form.{COMPACT_RECORD, Bytes, SHARED_BYTES, LETTERS_RECORD, LETTERS_AT, compact_records, letters_in, place_at, base_at, lower_at, bytes_from, joined}
use Rattle.class_compact_meaning.specs.Unpacked.{letters_bytes, expansion, unpacked}
use Rattle.class_compact_meaning.specs.Check.{no_letters, letters_are, repeated, bad_compact}
use Rattle.class_compact_meaning.specs.Packed.{plain, alike, first_alike, is_new, letters_before, packed_place, compacted, packed_records, packed_letters}
use Rattle.class_compact_meaning.specs.Inner.Form.{Sized}
use Rattle.class_compact_meaning.specs.Inner.Sound.{seen_before, next_only, in_first_use}
use Rattle.class_compact_meaning.proofs.Laws.Bytes.{half_back}
use Rattle.class_compact_meaning.proofs.Laws.Firsts.{clash, first_least}
use Rattle.class_compact_meaning.proofs.Laws.FirstUse.{place_seen, used_by, next_all, all_seen}
use Rattle.class_compact_meaning.proofs.Laws.Form.{bytes_length, bytes_at, bytes_all, bytes_same, bytes_split, joined_same, joined_at, joined_table}
use Rattle.class_compact_meaning.proofs.Laws.Numbering.{both_yes, alike_base, alike_lower, alike_of, alike_at, alike_first, first_new, before_new}
use Rattle.class_compact_meaning.proofs.Laws.Numbering.{before_old, place_none, place_some}
use Rattle.class_compact_meaning.proofs.Laws.Sound.{Good, good_parts, record_there, table_allowed, good_order, good_some, good_once}
use Rattle.class_compact_meaning.proofs.Laws.Unpacked.{expansion_length, unpacked_records, base_none, lower_none, base_there, lower_there, at_letters, there}

module _ (c l : List ℕ) (s : Sized c) (ok : bad_compact c l ≡ Ok tt) where
  abbrev u : List ℕ
  u = unpacked c l

  g : Good c l s
  g = good_parts c l s ok

  pub unpacked_good : good_table u ≡ true
  unpacked_good = free_good u (table_allowed c l s g)

  inside : {i : ℕ} → i < compact_records c → i < records u
  inside h = rw (unpacked_records c l) h

  order : in_first_use c (letters_in l) ≡ true
  order = good_order c l s g

  next_one : (i : ℕ) → i < compact_records c → place_at c i ≤ seen_before c i + 1
  unfolding next_only
  next_one i h = leb-true _ _ (next_all c (letters_in l) order i h)

  there_is : (i : ℕ) → i < compact_records c → 0 < place_at c i → within 1 (letters_in l) (place_at c i) ≡ true
  there_is i h p = within_yes 1 (letters_in l) (place_at c i) p (record_there c l s g i h)

  -- ---- a record has no letters exactly where its place is 0
  plain_none : (i : ℕ) → i < compact_records c → place_at c i ≡ 0 → plain u i ≡ true
  unfolding plain
  plain_none i h e = both_yes (record_at u i).base (record_at u i).lower 0 0 (base_none c l i h e) (lower_none c l i h e)

  plain_some : (i : ℕ) → i < compact_records c → 0 < place_at c i → plain u i ≡ false
  unfolding plain no_letters
  plain_some i h p =
      let w = there_is i h p in
      rw (base_there c l i h w, lower_there c l i h w) (good_some c l s g (place_at c i - 1) (few i h p))
    where
      few : (i : ℕ) → i < compact_records c → 0 < place_at c i → place_at c i - 1 < letters_in l
      few i h p = omega (arith, record_there c l s g i h)

  -- ---- two records have the same letters exactly where their places are the same
  alike_same : (i j : ℕ) → i < compact_records c → j < compact_records c → place_at c i ≡ place_at c j → alike u i j ≡ true
  alike_same i j h k e =
      split 0 (place_at c i)
      (λ p. let p' : 0 < place_at c j = rw e at p in
      alike_of u i j
      (base_there c l j k (there_is j k p') ∙ rw (← e) (sym (base_there c l i h (there_is i h p))))
      (lower_there c l j k (there_is j k p') ∙ rw (← e) (sym (lower_there c l i h (there_is i h p)))))
      (λ p. let z : place_at c i ≡ 0 = omega arith in
      let y : place_at c j ≡ 0 = sym e ∙ z in
      alike_of u i j (base_none c l j k y ∙ sym (base_none c l i h z)) (lower_none c l j k y ∙ sym (lower_none c l i h z)))

  -- the same letters at two places would be a repeat
  no_repeat : (a b : ℕ) → a < b → b < letters_in l → base_at l a ≡ base_at l b → lower_at l a ≡ lower_at l b → ⊥
  unfolding repeated letters_are
  no_repeat a b h m e f =
      let x : first (letters_are l (base_at l b) (lower_at l b)) b ≤ a =
      first_least (letters_are l (base_at l b) (lower_at l b)) b a (both_yes (base_at l a) (lower_at l a) (base_at l b) (lower_at l b) e f) in
      clash (lt-ltb (first (letters_are l (base_at l b) (lower_at l b)) b) b (omega arith)) (good_once c l s g b m)

  -- two records that both have letters
  module _ (i j : ℕ) (h : i < compact_records c) (k : j < compact_records c) (p : 0 < place_at c i) (q : 0 < place_at c j) (a : alike u i j ≡ true) where
    same_base : base_at l (place_at c j - 1) ≡ base_at l (place_at c i - 1)
    same_base = sym (base_there c l j k (there_is j k q)) ∙ alike_base u i j a ∙ base_there c l i h (there_is i h p)

    same_lower : lower_at l (place_at c j - 1) ≡ lower_at l (place_at c i - 1)
    same_lower = sym (lower_there c l j k (there_is j k q)) ∙ alike_lower u i j a ∙ lower_there c l i h (there_is i h p)

    same_place : place_at c i ≡ place_at c j
    same_place =
        split (place_at c j) (place_at c i)
        (λ m. absurd (no_repeat (place_at c j - 1) (place_at c i - 1) (omega arith) (omega (arith, record_there c l s g i h)) same_base same_lower))
        (λ m. split (place_at c i) (place_at c j)
        (λ n. absurd (no_repeat (place_at c i - 1) (place_at c j - 1) (omega arith) (omega (arith, record_there c l s g j k)) (sym same_base) (sym same_lower)))
        (λ n. omega arith))

  alike_place : (i j : ℕ) → i < compact_records c → j < compact_records c → 0 < place_at c i → alike u i j ≡ true → place_at c i ≡ place_at c j
  unfolding plain
  alike_place i j h k p a =
      split 0 (place_at c j)
      (λ q. same_place i j h k p q a)
      (λ q. let z : place_at c j ≡ 0 = omega arith in
      clash (both_yes (record_at u i).base (record_at u i).lower 0 0
      (sym (alike_base u i j a) ∙ base_none c l j k z) (sym (alike_lower u i j a) ∙ lower_none c l j k z)) (plain_some i h p))

  -- ---- letters are new exactly where the place is past those seen
  new_next : (i : ℕ) → i < compact_records c → place_at c i ≡ seen_before c i + 1 → is_new u i ≡ true
  unfolding is_new
  new_next i h e =
      let p : 0 < place_at c i = omega arith in
      rw (plain_some i h p) (eq-eqb (first_alike u i) i (itself p (alike_at u i (inside h))))
    where
      itself : 0 < place_at c i → first_alike u i ≤ i → first_alike u i ≡ i
      itself p m =
          split (first_alike u i) i
          (λ n. let b : first_alike u i < compact_records c = omega arith in
          let z = alike_place i (first_alike u i) h b p (alike_first u i (inside h)) in
          let y = place_seen c (first_alike u i) i n in
          absurd (no z y))
          (λ n. omega arith)
        where
          no : place_at c i ≡ place_at c (first_alike u i) → place_at c (first_alike u i) ≤ seen_before c i → ⊥
          no x y = omega arith

  first_alike_least : (i j : ℕ) → alike u i j ≡ true → first_alike u i ≤ j
  unfolding first_alike
  first_alike_least i j a = first_least (alike u i) (records u) j a

  old_seen : (i : ℕ) → i < compact_records c → place_at c i ≤ seen_before c i → is_new u i ≡ false
  unfolding is_new
  old_seen i h m =
      split 0 (place_at c i)
      (λ p. let r = used_by c (next_all c (letters_in l) order) i (weak h) (place_at c i - 1) (less p m) in
      let e : place_at c i ≡ place_at c r.at = sym (r.is ∙ back p) in
      let a = alike_same i r.at h (chain r.below h) e in
      rw (plain_some i h p) (ne_eqb (first_alike u i) i (earlier r.at a r.below)))
      (λ p. rw (plain_none i h (zero_is p)))
    where
      weak : {a b : ℕ} → a < b → a ≤ b
      weak h = omega arith

      chain : {a b d : ℕ} → a < b → b < d → a < d
      chain a b = omega arith

      less : {p s : ℕ} → 0 < p → p ≤ s → p - 1 < s
      less a b = omega arith

      back : {p : ℕ} → 0 < p → p - 1 + 1 ≡ p
      back h = omega arith

      zero_is : {p : ℕ} → p ≤ 0 → p ≡ 0
      zero_is h = omega arith

      not_same : (f j i : ℕ) → f ≤ j → j < i → f ≡ i → ⊥
      not_same f j i a b e = omega arith

      earlier : (j : ℕ) → alike u i j ≡ true → j < i → first_alike u i ≡ i → ⊥
      earlier j a b = not_same (first_alike u i) j i (first_alike_least i j a) b

  -- ---- the letters before a record are those that it has seen
  new_bytes : (i : ℕ) → i < compact_records c → place_at c i ≡ seen_before c i + 1
      → bytes_from u (i * CLASS_RECORD + LETTERS_AT) LETTERS_RECORD ≡ bytes_from l (seen_before c i * LETTERS_RECORD) LETTERS_RECORD
  new_bytes i h e =
      let w = there_is i h (omega arith) in
      let z : place_at c i - 1 ≡ seen_before c i = omega arith in
      bytes_same u l (i * CLASS_RECORD + LETTERS_AT) (seen_before c i * LETTERS_RECORD) LETTERS_RECORD
      (λ k m. at_letters c l i h k m ∙ (rw z at (there c l i h w k m)))

  more : (i : ℕ) → i < compact_records c → place_at c i ≡ seen_before c i + 1 → letters_before u i ≡ bytes_from l 0 (seen_before c i * LETTERS_RECORD)
      → letters_before u i ++ bytes_from u (i * CLASS_RECORD + LETTERS_AT) LETTERS_RECORD ≡ bytes_from l 0 (place_at c i * LETTERS_RECORD)
  more i h e f =
      let z : (seen_before c i + 1) * LETTERS_RECORD ≡ seen_before c i * LETTERS_RECORD + LETTERS_RECORD = omega arith in
      rw (e, z, f, new_bytes i h e) (sym (bytes_split l 0 (seen_before c i * LETTERS_RECORD) LETTERS_RECORD ∙ rw (zero-add (seen_before c i * LETTERS_RECORD))))

  letters_seen : (i : ℕ) → i ≤ compact_records c → letters_before u i ≡ bytes_from l 0 (seen_before c i * LETTERS_RECORD)
  unfolding seen_before letters_before joined bytes_from
  letters_seen zero h = refl
  letters_seen (suc i) h =
      let t : suc i ≡ i + 1 = omega arith in
      let m : i < compact_records c = omega arith in
      split (seen_before c i) (place_at c i)
      (λ a. let e : place_at c i ≡ seen_before c i + 1 = omega (arith, next_one i m) in
      rw (lt-ltb (seen_before c i) (place_at c i) a) (ap (letters_before u) t ∙ before_new u i (new_next i m e) ∙ more i m e (letters_seen i (omega arith))))
      (λ a. rw (le-ltb (seen_before c i) (place_at c i) a) (ap (letters_before u) t ∙ before_old u i (old_seen i m a) ∙ letters_seen i (omega arith)))

  seen_number : (i : ℕ) → i ≤ compact_records c → letters_in (letters_before u i) ≡ seen_before c i
  seen_number i h = rw (letters_seen i h, bytes_length l 0 (seen_before c i * LETTERS_RECORD)) (divided (seen_before c i))
    where
      divided : (n : ℕ) → n * LETTERS_RECORD / LETTERS_RECORD ≡ n
      divided n = omega arith

  -- ---- a record's place
  new_place : (i : ℕ) → i < compact_records c → is_new u i ≡ true → place_at c i ≡ seen_before c i + 1
  new_place i h n =
      split (seen_before c i) (place_at c i)
      (λ a. omega (arith, next_one i h))
      (λ a. clash n (old_seen i h a))

  place_back : (i : ℕ) → i < compact_records c → packed_place u i ≡ place_at c i
  place_back i h =
      split 0 (place_at c i)
      (λ p. let e = plain_some i h p in
      let f = first_alike u i in
      let b : f < compact_records c = omega (arith, alike_at u i (inside h)) in
      place_some u i e ∙ ap (λ (n : ℕ). n + 1) (seen_number f (omega arith)) ∙ sym (new_place f b (first_new u i (inside h) e))
      ∙ sym (alike_place i f h b p (alike_first u i (inside h))))
      (λ p. sym (place_none u i (plain_none i h (zero_is p))) ∙ sym (zero_is p))
    where
      zero_is : {p : ℕ} → p ≤ 0 → p ≡ 0
      zero_is h = omega arith

  -- ---- and back
  module _ (bytes : Bytes c) where
    shared_same : (i : ℕ) → i < compact_records c → bytes_from u (i * CLASS_RECORD) SHARED_BYTES ≡ bytes_from c (i * COMPACT_RECORD) SHARED_BYTES
    unfolding unpacked expansion
    shared_same i h =
        bytes_same u c (i * CLASS_RECORD) (i * COMPACT_RECORD) SHARED_BYTES
        (λ k m. joined_at (expansion c l) CLASS_RECORD (compact_records c) (λ j b. expansion_length c l j) i k h (omega arith)
        ∙ get_or-append (bytes_from c (i * COMPACT_RECORD) SHARED_BYTES) (0 ∷ 0 ∷ letters_bytes l (place_at c i)) 0 k
        (rw (bytes_length c (i * COMPACT_RECORD) SHARED_BYTES) m)
        ∙ bytes_at c (i * COMPACT_RECORD) SHARED_BYTES k m)

    record_same : (i : ℕ) → i < compact_records c → compacted u i ≡ bytes_from c (i * COMPACT_RECORD) COMPACT_RECORD
    unfolding compacted place_at
    record_same i h =
        rw (shared_same i h, place_back i h, half_back c bytes (i * COMPACT_RECORD + SHARED_BYTES)) (sym (bytes_split c (i * COMPACT_RECORD) 14 2))

    pub records_back : packed_records u ≡ c
    unfolding packed_records
    records_back =
        rw (unpacked_records c l) (joined_same (compacted u) (λ i. bytes_from c (i * COMPACT_RECORD) COMPACT_RECORD) (compact_records c) record_same
        ∙ joined_table c COMPACT_RECORD (compact_records c) (times (length c) s.whole))
      where
        times : (n : ℕ) → n % COMPACT_RECORD ≡ 0 → n ≡ n / COMPACT_RECORD * COMPACT_RECORD
        times n e = omega arith

  pub letters_back : packed_letters u ≡ l
  unfolding packed_letters
  letters_back =
      rw (unpacked_records c l) (letters_seen (compact_records c) (omega arith)
      ∙ rw (all_seen c (letters_in l) order, ← times (length l) g.whole) (bytes_all l))
    where
      times : (n : ℕ) → n % LETTERS_RECORD ≡ 0 → n ≡ n / LETTERS_RECORD * LETTERS_RECORD
      times n e = omega arith
