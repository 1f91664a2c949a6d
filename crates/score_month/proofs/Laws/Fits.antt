-- The rows that were counted fit (`rows_fit`, `rows_in`), and so many can be taken (`rows_taken`).
-- Assumes nothing.
use Rattle.std.specs.Prelude.{Ok}
use Prim.Native.Nat.{ℕ, ◌*◌, ◌≤◌}
use mathlib.Core.Path.{◌≡◌, sym}
use mathlib.Core.List.{List}
use native.Mathlib.Omega.{arith}
use lib.Ieee.{Float}
use lib.ListN.{length, take}
use lib.Seq.{length-take-le}
use Rattle.md_lines_meaning.specs.Burst.{answer}
use Rattle.md_lines_meaning.proofs.Laws.EachLine.{lines_faultless}

module _ (bytes : List ℕ) (threshold : Float) (classes pairs : List ℕ) (room n : ℕ) (e : answer bytes threshold classes pairs room ≡ Ok n) where
  pub rows_fit : (most : ℕ) → most ≡ room → n * 37 ≤ most
  rows_fit most m =
      let told = lines_faultless bytes threshold classes pairs room n e in
      omega (arith, told.0.enough, told.1, m)

  pub rows_in : (most : ℕ) → most ≡ room → (rows : List ℕ) → length rows ≡ most → n * 37 ≤ length rows
  rows_in most m rows l = omega (arith, rows_fit most m, l)

  pub rows_taken : (most : ℕ) → most ≡ room → (rows : List ℕ) → length rows ≡ most → n * 37 ≡ length (take (n * 37) rows)
  rows_taken most m rows l = sym (length-take-le (n * 37) rows (omega (arith, rows_fit most m, l)))
