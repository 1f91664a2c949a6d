-- What stands at a place, by the byte there: the tests and values of the code are those of Table 3-7. Assumes nothing.
use Prim.Native.Nat.{ℕ, ◌+◌, ◌≤◌, ◌<◌}
use mathlib.Core.Path.{◌≡◌, ap, ◌∙◌}
use mathlib.Core.List.{List}
use mathlib.Core.Bool.{Bool, true, false, cond}
use native.Mathlib.Omega.{arith}
use lib.ListN.{length}
use Rattle.utf8_table.specs.WellFormed.{Step, one, two, three, four, no_row, byte_at, step_at}
use Rattle.utf8_table.specs.Inner.ByLead.{leads_two, leads_three, leads_four}
use Rattle.utf8_table.proofs.Laws.ByLead.{row_one, row_two, row_three, row_four}
use Rattle.utf8_meaning.proofs.Laws.Text.{at_row}

-- what a test decides, where it holds, where it does not, and where something is known to stand
pub yes : (t : Bool) {x s : Step} → x ≡ cond t s no_row → t ≡ true → x ≡ s
yes true e f = e
yes false e f = let z : ◌≡◌ {A = ℕ} 0 1 = cc in absurd (no z)
  where
    no : ◌≡◌ {A = ℕ} 0 1 → ⊥
    no z = omega arith

pub no : (t : Bool) (s : Step) {x : Step} → x ≡ cond t s no_row → t ≡ false → x ≡ no_row
no true s e f = let z : ◌≡◌ {A = ℕ} 0 1 = cc in absurd (not_so z)
  where
    not_so : ◌≡◌ {A = ℕ} 0 1 → ⊥
    not_so z = omega arith
no false s e f = e

some_is : (t : Bool) {x s : Step} → x ≡ cond t s no_row → (x.size ≡ 0 → ⊥) → x ≡ s
some_is true e n = e
some_is false e n = absurd (n (ap (λ (s : Step). s.size) e))

module _ (bytes : List ℕ) (i : ℕ) (h : i < length bytes) where
  pub at_one : byte_at bytes i < 0x80 → step_at bytes i ≡ one (byte_at bytes i)
  at_one k = at_row bytes i h ∙ row_one (byte_at bytes i) _ _ _ k

  pub at_two : 0x80 ≤ byte_at bytes i → byte_at bytes i < 0xE0
      → step_at bytes i ≡ cond (leads_two (byte_at bytes i) (byte_at bytes (i + 1))) (two (byte_at bytes i) (byte_at bytes (i + 1))) no_row
  at_two k l = at_row bytes i h ∙ row_two (byte_at bytes i) _ _ _ k l

  pub at_three : 0xE0 ≤ byte_at bytes i → byte_at bytes i < 0xF0
      → step_at bytes i
      ≡ cond (leads_three (byte_at bytes i) (byte_at bytes (i + 1)) (byte_at bytes (i + 2)))
      (three (byte_at bytes i) (byte_at bytes (i + 1)) (byte_at bytes (i + 2)))
      no_row
  at_three k l = at_row bytes i h ∙ row_three (byte_at bytes i) _ _ _ k l

  pub at_four : 0xF0 ≤ byte_at bytes i
      → step_at bytes i
      ≡ cond (leads_four (byte_at bytes i) (byte_at bytes (i + 1)) (byte_at bytes (i + 2)) (byte_at bytes (i + 3)))
      (four (byte_at bytes i) (byte_at bytes (i + 1)) (byte_at bytes (i + 2)) (byte_at bytes (i + 3)))
      no_row
  at_four k = at_row bytes i h ∙ row_four (byte_at bytes i) _ _ _ k

  module _ (n : (step_at bytes i).size ≡ 0 → ⊥) where
    pub some_two : 0x80 ≤ byte_at bytes i → byte_at bytes i < 0xE0 → step_at bytes i ≡ two (byte_at bytes i) (byte_at bytes (i + 1))
    some_two k l = some_is (leads_two (byte_at bytes i) (byte_at bytes (i + 1))) (at_two k l) n

    pub some_three : 0xE0 ≤ byte_at bytes i → byte_at bytes i < 0xF0
        → step_at bytes i ≡ three (byte_at bytes i) (byte_at bytes (i + 1)) (byte_at bytes (i + 2))
    some_three k l = some_is (leads_three (byte_at bytes i) (byte_at bytes (i + 1)) (byte_at bytes (i + 2))) (at_three k l) n

    pub some_four : 0xF0 ≤ byte_at bytes i
        → step_at bytes i ≡ four (byte_at bytes i) (byte_at bytes (i + 1)) (byte_at bytes (i + 2)) (byte_at bytes (i + 3))
    some_four k =
        some_is (leads_four (byte_at bytes i) (byte_at bytes (i + 1)) (byte_at bytes (i + 2)) (byte_at bytes (i + 3))) (at_four k) n
