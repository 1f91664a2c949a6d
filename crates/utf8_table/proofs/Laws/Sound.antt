-- Table 3-7 keeps to Table 3-6: what a row gives is a scalar value, and the row's bytes are its encoding (`row_sound`).
-- Assumes nothing.
use Prim.Native.Nat.{ℕ, ◌+◌, ◌/◌, ◌%◌, ◌≤◌, ◌<◌}
use mathlib.Core.Path.{◌≡◌, refl, ◌∙◌}
use mathlib.Core.List.{[], ◌∷◌}
use mathlib.Core.Bool.{Bool, true, cond, ◌&&◌}
use native.Mathlib.Omega.{arith}
use lib.ListN.{take}
use lib.Dec.{leb, eqb}
use borrow.Author.Tests.{leb-true, eqb-false}
use Rattle.base.specs.Limits.{LAST_POINT}
use Rattle.base.specs.Tests.{within, scalar}
use Rattle.base.proofs.Laws.Tests.{by_test, by_bool, split, and_l, and_r, within_lo, within_hi}
use Rattle.utf8_table.specs.Encoding.{encode}
use Rattle.utf8_table.specs.WellFormed.{Step, point_of_two, point_of_three, point_of_four, one, two, three, four, no_row, continues, row}
use Rattle.utf8_table.specs.Inner.ByLead.{leads_two, leads_three, leads_four}
use Rattle.utf8_table.proofs.Laws.ByLead.{row_one, row_two, row_three, row_four}
use Rattle.utf8_table.proofs.Laws.Encoding.{scalar_low, scalar_high, encode_1, encode_2, encode_3, encode_4}

-- what a row gives. That each byte after the first is above 0 says that it lies within the byte string
pub record Sound (a b c d : ℕ) (s : Step) : Type 0 where
  pub is_scalar : scalar s.point ≡ true
  pub bytes : encode s.point ≡ take s.size (a ∷ b ∷ c ∷ d ∷ [])
  pub some : 1 ≤ s.size
  pub most : s.size ≤ 4
  pub second : 2 ≤ s.size → 0 < b
  pub third : 3 ≤ s.size → 0 < c
  pub fourth : 4 ≤ s.size → 0 < d

-- a bound of the second byte that hangs on the first: the narrower one, x, at the lead k, else y
lower : (a k x y b : ℕ) → y ≤ x → cond (eqb a k) x y ≤ b → (y ≤ b) × (a ≡ k → x ≤ b)
lower a k x y b h =
    by_bool (eqb a k)
    (λ e l. let m : x ≤ b = rw e at l in (omega arith, λ f. m))
    (λ e l. (rw e at l, λ f. absurd (eqb-false a k e f)))

upper : (a k x y b : ℕ) → x ≤ y → b ≤ cond (eqb a k) x y → (b ≤ y) × (a ≡ k → b ≤ x)
upper a k x y b h =
    by_bool (eqb a k)
    (λ e l. let m : b ≤ x = rw e at l in (omega arith, λ f. m))
    (λ e l. (rw e at l, λ f. absurd (eqb-false a k e f)))

module _ (a b c d : ℕ) where
  one_sound : a < 0x80 → Sound a b c d (one a)
  one_sound h =
      record {
        is_scalar = scalar_low a (omega arith);
        bytes = encode_1 a h;
        some = omega arith;
        most = omega arith;
        second = λ l. omega arith;
        third = λ l. omega arith;
        fourth = λ l. omega arith;
      }

  two_sound : a < 0xE0 → leads_two a b ≡ true → Sound a b c d (two a b)
  unfolding leads_two
  two_sound k t =
      let h : 0xC2 ≤ a = leb-true 0xC2 a (and_l (leb 0xC2 a) (continues b) t) in
      let l : 0x80 ≤ b = within_lo 0x80 0xBF b (and_r (leb 0xC2 a) (continues b) t) in
      let m : b ≤ 0xBF = within_hi 0x80 0xBF b (and_r (leb 0xC2 a) (continues b) t) in
      let ea : 0xC0 + point_of_two a b / 64 ≡ a = omega arith in
      let eb : 0x80 + point_of_two a b % 64 ≡ b = omega arith in
      record {
        is_scalar = scalar_low (point_of_two a b) (omega arith);
        bytes = encode_2 (point_of_two a b) (omega arith) (omega arith) ∙ (cc);
        some = omega arith;
        most = omega arith;
        second = λ l. omega arith;
        third = λ l. omega arith;
        fourth = λ l. omega arith;
      }

  -- E0 keeps three bytes from a code point below U+0800, and ED from a surrogate
  three_scalar : 0xE0 ≤ a → a < 0xF0 → 0x80 ≤ b → b ≤ 0xBF → (a ≡ 0xED → b ≤ 0x9F) → scalar (point_of_three a b c) ≡ true
  three_scalar h k l m ed =
      split a 0xED (λ n. scalar_low _ (omega arith))
      (λ n. split a 0xEE (λ o. let e : b ≤ 0x9F = ed (omega arith) in scalar_low _ (omega arith)) (λ o. scalar_high _ (omega arith) (omega arith)))

  three_long : 0xE0 ≤ a → a < 0xF0 → 0x80 ≤ b → b ≤ 0xBF → (a ≡ 0xE0 → 0xA0 ≤ b) → 0x800 ≤ point_of_three a b c
  three_long h k l m e0 = split a 0xE1 (λ n. let e : 0xA0 ≤ b = e0 (omega arith) in omega arith) (λ n. omega arith)

  three_sound : 0xE0 ≤ a → a < 0xF0 → leads_three a b c ≡ true → Sound a b c d (three a b c)
  unfolding leads_three
  three_sound h k t =
      let s = and_l (within (cond (eqb a 0xE0) 0xA0 0x80) (cond (eqb a 0xED) 0x9F 0xBF) b) (continues c) t in
      let l = lower a 0xE0 0xA0 0x80 b (omega arith) (within_lo (cond (eqb a 0xE0) 0xA0 0x80) (cond (eqb a 0xED) 0x9F 0xBF) b s) in
      let m = upper a 0xED 0x9F 0xBF b (omega arith) (within_hi (cond (eqb a 0xE0) 0xA0 0x80) (cond (eqb a 0xED) 0x9F 0xBF) b s) in
      let r = and_r (within (cond (eqb a 0xE0) 0xA0 0x80) (cond (eqb a 0xED) 0x9F 0xBF) b) (continues c) t in
      let n : 0x80 ≤ c = within_lo 0x80 0xBF c r in
      let o : c ≤ 0xBF = within_hi 0x80 0xBF c r in
      let ea : 0xE0 + point_of_three a b c / 4096 ≡ a = omega arith in
      let eb : 0x80 + point_of_three a b c / 64 % 64 ≡ b = omega arith in
      let ec : 0x80 + point_of_three a b c % 64 ≡ c = omega arith in
      record {
        is_scalar = three_scalar h k l.0 m.0 m.1;
        bytes = encode_3 (point_of_three a b c) (three_long h k l.0 m.0 l.1) (omega arith) ∙ (cc);
        some = omega arith;
        most = omega arith;
        second = λ l. omega arith;
        third = λ l. omega arith;
        fourth = λ l. omega arith;
      }

  -- F0 keeps four bytes from a code point below U+10000, and F4 from one above U+10FFFF
  four_bounds : 0xF0 ≤ a → a ≤ 0xF4 → 0x80 ≤ b → b ≤ 0xBF → (a ≡ 0xF0 → 0x90 ≤ b) → (a ≡ 0xF4 → b ≤ 0x8F)
      → (0x10000 ≤ point_of_four a b c d) × (point_of_four a b c d ≤ LAST_POINT)
  four_bounds h k l m f0 f4 = (
    split a 0xF1 (λ n. let e : 0x90 ≤ b = f0 (omega arith) in omega arith) (λ n. omega arith),
    split a 0xF4 (λ n. omega arith) (λ n. let e : b ≤ 0x8F = f4 (omega arith) in omega arith),
  )

  four_sound : 0xF0 ≤ a → leads_four a b c d ≡ true → Sound a b c d (four a b c d)
  unfolding leads_four
  four_sound h t =
      let w = within (cond (eqb a 0xF0) 0x90 0x80) (cond (eqb a 0xF4) 0x8F 0xBF) b in
      let t3 = and_l (leb a 0xF4 && w && continues c) (continues d) t in
      let t2 = and_l (leb a 0xF4 && w) (continues c) t3 in
      let k : a ≤ 0xF4 = leb-true a 0xF4 (and_l (leb a 0xF4) w t2) in
      let s = and_r (leb a 0xF4) w t2 in
      let l = lower a 0xF0 0x90 0x80 b (omega arith) (within_lo (cond (eqb a 0xF0) 0x90 0x80) (cond (eqb a 0xF4) 0x8F 0xBF) b s) in
      let m = upper a 0xF4 0x8F 0xBF b (omega arith) (within_hi (cond (eqb a 0xF0) 0x90 0x80) (cond (eqb a 0xF4) 0x8F 0xBF) b s) in
      let r = four_bounds h k l.0 m.0 l.1 m.1 in
      let n : 0x80 ≤ c = within_lo 0x80 0xBF c (and_r (leb a 0xF4 && w) (continues c) t3) in
      let o : c ≤ 0xBF = within_hi 0x80 0xBF c (and_r (leb a 0xF4 && w) (continues c) t3) in
      let p : 0x80 ≤ d = within_lo 0x80 0xBF d (and_r (leb a 0xF4 && w && continues c) (continues d) t) in
      let q : d ≤ 0xBF = within_hi 0x80 0xBF d (and_r (leb a 0xF4 && w && continues c) (continues d) t) in
      let ea : 0xF0 + point_of_four a b c d / 262144 ≡ a = omega arith in
      let eb : 0x80 + point_of_four a b c d / 4096 % 64 ≡ b = omega arith in
      let ec : 0x80 + point_of_four a b c d / 64 % 64 ≡ c = omega arith in
      let ed : 0x80 + point_of_four a b c d % 64 ≡ d = omega arith in
      record {
        is_scalar = scalar_high _ (omega arith) r.1;
        bytes = encode_4 (point_of_four a b c d) r.0 ∙ (cc);
        some = omega arith;
        most = omega arith;
        second = λ l. omega arith;
        third = λ l. omega arith;
        fourth = λ l. omega arith;
      }

  picked : (t : Bool) (s : Step) → (t ≡ true → Sound a b c d s) → ((cond t s no_row).size ≡ 0 → ⊥) → Sound a b c d (cond t s no_row)
  picked t s h =
      by_test (λ (r : Step). (r.size ≡ 0 → ⊥) → Sound a b c d r) t s no_row (λ e n. h e) (λ e n. absurd (n refl))

  pub row_sound : ((row a b c d).size ≡ 0 → ⊥) → Sound a b c d (row a b c d)
  row_sound n =
      split a 0x80 (λ h. rw (row_one a b c d h) (one_sound h))
      (λ l. split a 0xE0
      (λ h. let e = row_two a b c d l h in
      rw e (picked (leads_two a b) (two a b) (two_sound h) (rw e at n)))
      (λ l. split a 0xF0
      (λ h. let e = row_three a b c d l h in
      rw e (picked (leads_three a b c) (three a b c) (three_sound l h) (rw e at n)))
      (λ l. let e = row_four a b c d l in
      rw e (picked (leads_four a b c d) (four a b c d) (four_sound l) (rw e at n)))))
