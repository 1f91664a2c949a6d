-- What a table has for each element of a list, put into the first places of another list one after the other (`Copying`): the first i stand there. Its
-- start, its step and its end. Assumes nothing.
use Prim.Native.Nat.{ℕ, ◌+◌, ◌≤◌, ◌<◌}
use mathlib.Core.Path.{◌≡◌, sym, ◌∙◌}
use mathlib.Core.List.{List}
use native.Mathlib.Nat.{zero-add}
use native.Mathlib.Omega.{arith}
use lib.ListN.{length, get_or, set}
use Rattle.base.specs.Put.{put}
use Rattle.base.proofs.Loops.Putting.{Putting, putting_start, putting_more, putting_end}
use Rattle.page_meaning.specs.Inner.Tables.{looked}
use Rattle.page_meaning.proofs.Laws.Lists.{length_map, get_d_map}

pub record Copying (table l out after : List ℕ) (i : ℕ) : Type 0 where
  pub so_far : Putting out 0 (looked table l) after i

size : (table l : List ℕ) → length (looked table l) ≡ length l
size table l = length_map (λ x. get_or table x 0) l

module _ {table l out : List ℕ} where
  pub copying_start : length l ≤ length out → Copying table l out out 0
  copying_start h = record { so_far = putting_start out 0 (looked table l) (omega (arith, size table l)) }

  module _ {after : List ℕ} {i : ℕ} (g : Copying table l out after i) where
    pub copying_more : i < length l → (x : ℕ) → x ≡ get_or table (get_or l i 0) 0 → Copying table l out (set after i x) (i + 1)
    copying_more h x e =
        let m : i < length (looked table l) = omega (arith, size table l) in
        let v : x ≡ get_or (looked table l) i 0 = e ∙ sym (get_d_map (λ x. get_or table x 0) l i 0 0 h) in
        record { so_far = rw zero-add at (putting_more out 0 (looked table l) g.so_far m 0 x v) }

    pub copying_end : length l ≤ i → after ≡ put out 0 (looked table l)
    copying_end h = putting_end out 0 (looked table l) g.so_far (omega (arith, size table l))
