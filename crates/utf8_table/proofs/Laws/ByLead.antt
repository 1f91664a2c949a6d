-- Table 3-7 by the first byte, the form that the code tests: 80 to DF leads two bytes, E0 to EF three, F0 and up four, with bounds for
-- the second byte that hang on the first. `row_one`, `row_two`, `row_three` and `row_four` say that this is the table. Assumes nothing.
use Prim.Native.Nat.{ℕ, ◌+◌, ◌*◌, ◌/◌, ◌≤◌, ◌<◌}
use mathlib.Core.Path.{◌≡◌, refl, ◌∙◌}
use mathlib.Core.Bool.{Bool, true, false, not, cond, ◌&&◌}
use native.Mathlib.Omega.{arith}
use lib.Dec.{leb, eqb}
use borrow.Author.Tests.{le-leb, lt-leb, eq-eqb, ne_eqb, eqb-true, eqb-false}
use Rattle.base.specs.Tests.{within}
use Rattle.base.proofs.Laws.Tests.{by_bool, cond_both, split, within_yes, within_below, within_above}
use Rattle.utf8_table.specs.WellFormed.{Step, one, two, three, four, no_row, continues, is_two, is_three, is_four, rows_of_three, rows_of_four, row}
use Rattle.utf8_table.specs.Inner.ByLead.{leads_two, leads_three, leads_four}

module _ (a b c d : ℕ) where
  no_threes : (rest : Step) → within 0xE0 0xE0 a ≡ false → within 0xE1 0xEC a ≡ false → within 0xED 0xED a ≡ false
      → within 0xEE 0xEF a ≡ false → rows_of_three a b c rest ≡ rest
  unfolding is_two is_three
  no_threes rest e f g h = rw (e, f, g, h)

  no_fours : a < 0xF0 → rows_of_four a b c d ≡ no_row
  unfolding is_two is_three is_four
  no_fours h =
      rw (
        within_below 0xF0 0xF0 a (omega arith),
        within_below 0xF1 0xF3 a (omega arith),
        within_below 0xF4 0xF4 a (omega arith),
      )

  -- from E0 on the first two rows are past
  past_two : 0xE0 ≤ a → row a b c d ≡ rows_of_three a b c (rows_of_four a b c d)
  unfolding row is_two
  past_two h =
      rw (within_above 0x00 0x7F a (omega arith) (omega arith), within_above 0xC2 0xDF a (omega arith) (omega arith))

  pub row_one : a < 0x80 → row a b c d ≡ one a
  unfolding row
  row_one h = rw (within_yes 0x00 0x7F a (omega arith) (omega arith))

  pub row_two : 0x80 ≤ a → a < 0xE0 → row a b c d ≡ cond (leads_two a b) (two a b) no_row
  unfolding row is_two leads_two
  row_two h k =
      rw (
        within_above 0x00 0x7F a (omega arith) (omega arith),
        no_threes (rows_of_four a b c d) (within_below 0xE0 0xE0 a k) (within_below 0xE1 0xEC a (omega arith))
            (within_below 0xED 0xED a (omega arith)) (within_below 0xEE 0xEF a (omega arith)),
        no_fours (omega arith),
      )
      (split a 0xC2
      (λ m. rw (within_below 0xC2 0xDF a m, lt-leb 0xC2 a m))
      (λ m. rw (within_yes 0xC2 0xDF a m (omega arith), le-leb 0xC2 a m)))

  -- E0 and ED have a row of their own; the leads between have one row, and so have those after
  threes_are : 0xE0 ≤ a → a < 0xF0 → rows_of_three a b c no_row ≡ cond (leads_three a b c) (three a b c) no_row
  unfolding is_two is_three leads_three
  threes_are h k =
      split a 0xE1 (λ m. let e : a ≡ 0xE0 = omega arith in rw e)
      (λ m. split a 0xED
      (λ n. rw (
        within_above 0xE0 0xE0 a h m,
        within_yes 0xE1 0xEC a m (omega arith),
        within_below 0xED 0xED a n,
        within_below 0xEE 0xEF a (omega arith),
        ne_eqb a 0xE0 (λ e. omega arith),
        ne_eqb a 0xED (λ e. omega arith),
      ))
      (λ n. split a 0xEE (λ o. let e : a ≡ 0xED = omega arith in rw e)
      (λ o. rw (
        within_above 0xE0 0xE0 a h m,
        within_above 0xE1 0xEC a m (omega arith),
        within_above 0xED 0xED a n o,
        within_yes 0xEE 0xEF a o (omega arith),
        ne_eqb a 0xE0 (λ e. omega arith),
        ne_eqb a 0xED (λ e. omega arith),
      ))))

  pub row_three : 0xE0 ≤ a → a < 0xF0 → row a b c d ≡ cond (leads_three a b c) (three a b c) no_row
  row_three h k = past_two h ∙ rw (no_fours k) (threes_are h k)

  fours_are : 0xF0 ≤ a → rows_of_four a b c d ≡ cond (leads_four a b c d) (four a b c d) no_row
  unfolding is_two is_three is_four leads_four
  fours_are h =
      split a 0xF1 (λ m. let e : a ≡ 0xF0 = omega arith in rw e)
      (λ m. split a 0xF4
      (λ n. rw (
        within_above 0xF0 0xF0 a h m,
        within_yes 0xF1 0xF3 a m (omega arith),
        within_below 0xF4 0xF4 a n,
        ne_eqb a 0xF0 (λ e. omega arith),
        ne_eqb a 0xF4 (λ e. omega arith),
        le-leb a 0xF4 (omega arith),
      ))
      (λ n. split a 0xF5 (λ o. let e : a ≡ 0xF4 = omega arith in rw e)
      (λ o. rw (
        within_above 0xF0 0xF0 a h m,
        within_above 0xF1 0xF3 a m (omega arith),
        within_above 0xF4 0xF4 a n o,
        lt-leb a 0xF4 o,
      ))))

  pub row_four : 0xF0 ≤ a → row a b c d ≡ cond (leads_four a b c d) (four a b c d) no_row
  row_four h =
      past_two (omega arith)
      ∙ no_threes (rows_of_four a b c d) (within_above 0xE0 0xE0 a (omega arith) (omega arith)) (within_above 0xE1 0xEC a (omega arith) (omega arith))
      (within_above 0xED 0xED a (omega arith) (omega arith)) (within_above 0xEE 0xEF a (omega arith) (omega arith))
      ∙ fours_are h

-- a sequence that the end cuts off: past the end a byte is 0
and_no : (t : Bool) → t && false ≡ false
and_no true = refl
and_no false = refl

pub cut_two : (a b : ℕ) → b ≡ 0 → leads_two a b ≡ false
unfolding leads_two
cut_two a b e = rw e (and_no (leb 0xC2 a))

pub cut_three : (a b c : ℕ) → c ≡ 0 → leads_three a b c ≡ false
unfolding leads_three
cut_three a b c e = rw e (and_no (within (cond (eqb a 0xE0) 0xA0 0x80) (cond (eqb a 0xED) 0x9F 0xBF) b))

pub cut_four : (a b c d : ℕ) → d ≡ 0 → leads_four a b c d ≡ false
unfolding leads_four
cut_four a b c d e =
    rw e (and_no (leb a 0xF4 && within (cond (eqb a 0xF0) 0x90 0x80) (cond (eqb a 0xF4) 0x8F 0xBF) b && continues c))

-- a byte that continues has 10 for its first two bits
pub continues_told : (c : ℕ) → eqb (c / 64) 2 ≡ continues c
continues_told c =
    split c 0x80 (λ h. rw (ne_eqb (c / 64) 2 (λ e. omega arith), within_below 0x80 0xBF c h))
    (λ h. split c 0xC0
    (λ k. rw (eq-eqb (c / 64) 2 (omega arith), within_yes 0x80 0xBF c h (omega arith)))
    (λ k. rw (ne_eqb (c / 64) 2 (λ e. omega arith), within_above 0x80 0xBF c h k)))

-- the bounds of the second byte of three, told by two numbers that are made of a first byte and three bits of the second
module _ (a b : ℕ) where
  abbrev lo : ℕ
  lo = cond (eqb a 0xE0) 0xA0 0x80

  abbrev hi : ℕ
  hi = cond (eqb a 0xED) 0x9F 0xBF

  lo_most : 0xA0 ≤ b → lo ≤ b
  lo_most h = cond_both (λ (x : ℕ). x ≤ b) (eqb a 0xE0) 0xA0 0x80 h (omega arith)

  pub second_told : (eqb (b / 64) 2 && not (eqb (a * 8 + b / 32) 0x704)) && not (eqb (a * 8 + b / 32) 0x76D) ≡ within lo hi b
  second_told =
      split b 0x80
      (λ h. rw (
        ne_eqb (b / 64) 2 (λ e. omega arith),
        within_below lo hi b (cond_both (λ (x : ℕ). b < x) (eqb a 0xE0) 0xA0 0x80 (omega arith) h),
      ))
      (λ h. split b 0xC0
      (λ k. split b 0xA0
      (λ l. rw (eq-eqb (b / 64) 2 (omega arith), ne_eqb (a * 8 + b / 32) 0x76D (λ e. omega arith))
      (by_bool (eqb a 0xE0)
      (λ e. let f : a ≡ 0xE0 = eqb-true a 0xE0 e in rw (e, eq-eqb (a * 8 + b / 32) 0x704 (omega arith), within_below 0xA0 hi b l))
      (λ e. rw (
        e,
        ne_eqb (a * 8 + b / 32) 0x704 (λ f. eqb-false a 0xE0 e (omega arith)),
        within_yes 0x80 hi b h (cond_both (λ (x : ℕ). b ≤ x) (eqb a 0xED) 0x9F 0xBF (omega arith) (omega arith)),
      ))))
      (λ l. rw (eq-eqb (b / 64) 2 (omega arith), ne_eqb (a * 8 + b / 32) 0x704 (λ e. omega arith))
      (by_bool (eqb a 0xED)
      (λ e. let f : a ≡ 0xED = eqb-true a 0xED e in rw (e, eq-eqb (a * 8 + b / 32) 0x76D (omega arith), within_above lo 0x9F b (lo_most l) l))
      (λ e. rw (e, ne_eqb (a * 8 + b / 32) 0x76D (λ f. eqb-false a 0xED e (omega arith)), within_yes lo 0xBF b (lo_most l) (omega arith))))))
      (λ k. rw (
        ne_eqb (b / 64) 2 (λ e. omega arith),
        within_above lo hi b (lo_most (omega arith)) (cond_both (λ (x : ℕ). x < b) (eqb a 0xED) 0x9F 0xBF (omega arith) k),
      )))
