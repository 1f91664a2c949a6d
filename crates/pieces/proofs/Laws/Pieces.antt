-- Two pieces put one behind the other are one piece (`goes_on`), the same piece is written another way (`goes_as`), no piece at all goes everywhere
-- (`goes_nothing`), and what stands in the first places of an output is the piece that was put there (`goes_first`, `goes_taken`).
-- Assumes nothing.
use Prim.Native.Nat.{ℕ, ◌+◌, ◌≤◌}
use mathlib.Core.Path.{◌≡◌, sym, ap, ◌∙◌}
use mathlib.Core.List.{List, [], ◌++◌}
use native.Mathlib.Nat.{zero-add, add-zero}
use native.Mathlib.Omega.{arith}
use lib.ListN.{length, take, length-append}
use Rattle.base.proofs.Laws.Put.{put_length, put_on, put_nothing, put_part}
use Rattle.pieces.specs.Numerals.{decimal}
use Rattle.pieces.proofs.Laws.Numerals.{decimal_short}
use Rattle.pieces.specs.Inner.Pieces.{Goes, Numbered}

-- the output keeps its length
pub goes_length : {b x : List ℕ} {at r : ℕ} {p : List ℕ} → Goes b x at p r → length x ≡ length b
goes_length {b} {x} {at} {r} {p} g = ap length g.is ∙ put_length b at p g.room

module _ {b m x : List ℕ} {at k r : ℕ} {p q : List ℕ} where
  pub goes_on : Goes b m at p k → Goes m x k q r → Goes b x at (p ++ q) r
  goes_on g h =
      let n : length m ≡ length b = goes_length g in
      let e : length (p ++ q) ≡ length p + length q = length-append p q in
      record {
        room = omega (arith, g.ends, h.room);
        is = h.is ∙ rw (g.ends, g.is) (put_on b at p q g.room);
        ends = omega (arith, g.ends, h.ends);
      }

-- the same piece, written another way
pub goes_as : {b x : List ℕ} {at r : ℕ} {p q : List ℕ} → p ≡ q → Goes b x at p r → Goes b x at q r
goes_as e g = rw e at g

pub numbered : {b x : List ℕ} {at r : ℕ} (word : List ℕ) (n : ℕ) → Goes b x at (word ++ decimal n) r → Numbered b x at word n r
numbered word n g = record { goes = g; near = omega (arith, g.ends, length-append word (decimal n), decimal_short n) }

pub goes_nothing : (b : List ℕ) (at : ℕ) → at ≤ length b → Goes b b at [] at
goes_nothing b at h = record { room = omega arith; is = sym (put_nothing b at); ends = sym (add-zero at) }

-- what was put into the first places
pub goes_first : {b x p : List ℕ} {r : ℕ} → Goes b x 0 p r → take r x ≡ p
goes_first {b} {x} {p} {r} g =
    let e : r ≡ length p = g.ends ∙ zero-add (length p) in
    rw (e, g.is) (put_part b 0 p g.room)

pub goes_taken : {b x p : List ℕ} {r : ℕ} → Goes b x 0 p r → r ≡ length (take r x)
goes_taken {b} {x} {p} {r} g = g.ends ∙ zero-add (length p) ∙ ap length (sym (goes_first g))
