-- What f makes of a list, put into the first places of a lent one, one element after the other (`Filling`): base's loop, from place 0 on.
-- Assumes nothing.
use Prim.Native.Nat.{ℕ, ◌+◌, ◌≤◌, ◌<◌}
use mathlib.Core.Path.{◌≡◌, sym, ◌∙◌}
use mathlib.Core.List.{List, map}
use native.Mathlib.Nat.{zero-add}
use native.Mathlib.Omega.{arith}
use lib.ListN.{length, get_or, set, length-map, get_or-map}
use Rattle.base.proofs.Loops.Putting.{Putting, putting_start, putting_length, putting_room, putting_more, putting_end}
use Rattle.cd_matches.specs.Inner.Put.{Put}

-- f at the first k of l stands in o, which was w
pub record Filling {B : Type 0} (f : ℕ → B) (l : List ℕ) (w o : List B) (k : ℕ) : Type 0 where
  pub putting : Putting w 0 (map f l) o k

module _ {B : Type 0} (f : ℕ → B) (l : List ℕ) (w : List B) where
  pub filling_start : length l ≤ length w → Filling f l w w 0
  filling_start h = record { putting = putting_start w 0 (map f l) (omega (arith, h, length-map l f)) }

  module _ {o : List B} {k : ℕ} (g : Filling f l w o k) where
    pub filling_length : length o ≡ length w
    filling_length = putting_length w 0 (map f l) g.putting

    pub filling_room : k < length l → k < length o
    filling_room h = rw (zero-add k) at (putting_room w 0 (map f l) g.putting (omega (arith, h, length-map l f)))

    pub filling_more : k < length l → (x : B) → x ≡ f (get_or l k 0) → Filling f l w (set o k x) (k + 1)
    filling_more h x e =
        record {
          putting = rw (zero-add k) at (putting_more w 0 (map f l) g.putting (omega (arith, h, length-map l f)) (f 0) x (e ∙ sym (get_or-map f l k 0)));
        }

    pub filling_end : length l ≤ k → Put (map f l) w o (length l)
    filling_end h =
        record { count = sym (length-map l f); out = putting_end w 0 (map f l) g.putting (omega (arith, h, length-map l f)) }
