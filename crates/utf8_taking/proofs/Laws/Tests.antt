-- What stands at a place, by the tests of the one pass. Assumes nothing.
use Prim.Native.Nat.{ℕ, ◌+◌, ◌/◌, ◌≤◌, ◌<◌}
use mathlib.Core.Path.{◌≡◌, sym, ◌∙◌}
use mathlib.Core.List.{List}
use mathlib.Core.Bool.{true, ◌&&◌}
use native.Mathlib.Omega.{arith}
use lib.ListN.{length}
use lib.Dec.{leb, ltb, eqb}
use borrow.Author.Tests.{leb-true, ltb-true, eqb-true, le-leb, eq-eqb}
use Rattle.base.proofs.Laws.Tests.{and_l, and_r, and_yes}
use Rattle.utf8_table.specs.WellFormed.{two, byte_at, step_at}
use Rattle.utf8_table.specs.Inner.ByLead.{leads_two}
use Rattle.utf8_table.proofs.Laws.ByLead.{continues_told}
use Rattle.utf8_meaning.proofs.Laws.Places.{yes, at_two}

module _ (bytes : List ℕ) (i : ℕ) (h : i < length bytes) where
  -- by a first byte that leads two, and the two bits of one that continues
  two_there : 0xC2 ≤ byte_at bytes i → byte_at bytes i < 0xE0 → byte_at bytes (i + 1) / 64 ≡ 2
      → step_at bytes i ≡ two (byte_at bytes i) (byte_at bytes (i + 1))
  unfolding leads_two
  two_there k l e =
      yes (leads_two (byte_at bytes i) (byte_at bytes (i + 1))) (at_two bytes i h (omega (arith, k)) l)
      (and_yes (le-leb 0xC2 (byte_at bytes i) k) (sym (continues_told (byte_at bytes (i + 1))) ∙ eq-eqb (byte_at bytes (i + 1) / 64) 2 e))

  pub two_tests : (leb 0xC2 (byte_at bytes i) && ltb (byte_at bytes i) 0xE0) && eqb (byte_at bytes (i + 1) / 64) 2 ≡ true
      → step_at bytes i ≡ two (byte_at bytes i) (byte_at bytes (i + 1))
  two_tests e =
      let a = byte_at bytes i in
      let q = byte_at bytes (i + 1) / 64 in
      let f = and_l (leb 0xC2 a && ltb a 0xE0) (eqb q 2) e in
      two_there (leb-true 0xC2 a (and_l (leb 0xC2 a) (ltb a 0xE0) f)) (ltb-true a 0xE0 (and_r (leb 0xC2 a) (ltb a 0xE0) f))
      (eqb-true q 2 (and_r (leb 0xC2 a && ltb a 0xE0) (eqb q 2) e))
