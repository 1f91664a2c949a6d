-- Texts f 0, f 1, .. put one behind the other: after k of them the output has them from `at` on, and the next comes at `next` (`Writing`).
-- Assumes nothing.
use Prim.Native.Nat.{ℕ, ◌+◌, ◌<◌, ◌≤◌}
use mathlib.Core.Path.{◌≡◌, refl, ap}
use mathlib.Core.List.{List, []}
use native.Mathlib.Omega.{arith}
use lib.ListN.{length, length-append}
use Rattle.pieces.specs.Inner.Pieces.{Goes}
use Rattle.pieces.proofs.Laws.Pieces.{goes_on, goes_as, goes_nothing, goes_length}
use Rattle.md_report_meaning.specs.Text.{joined}
use Rattle.md_report_meaning.proofs.Laws.Text.{joined_more, joined_part}

pub record Writing (f : ℕ → List ℕ) (n : ℕ) (before after : List ℕ) (at next k : ℕ) : Type 0 where
  pub within : k ≤ n
  pub goes : Goes before after at (joined f k) next

nothing : (f : ℕ → List ℕ) → [] ≡ joined f 0
unfolding joined
nothing f = refl

module _ (f : ℕ → List ℕ) (n : ℕ) (before : List ℕ) (at : ℕ) where
  pub writing_start : at ≤ length before → Writing f n before before at at 0
  writing_start h = record { within = omega arith; goes = goes_as (nothing f) (goes_nothing before at h) }

  module _ (after : List ℕ) (next k : ℕ) (w : Writing f n before after at next k) where
    pub writing_more : (out : List ℕ) (r : ℕ) → k < n → Goes after out next (f k) r → Writing f n before out at r (k + 1)
    writing_more out r h g = record { within = omega arith; goes = goes_as (joined_more f k) (goes_on w.goes g) }

    pub writing_end : n ≤ k → Goes before after at (joined f n) next
    writing_end h =
        let e : k ≡ n = omega (arith, w.within) in
        goes_as (ap (joined f) e) w.goes

    -- where all of it has room, the next has
    pub writing_near : next ≤ at + length (joined f n)
    writing_near = omega (arith, w.goes.ends, joined_part f k n w.within)

    pub writing_room : k < n → next + length (f k) ≤ at + length (joined f n)
    writing_room h =
        omega (arith, w.goes.ends, joined_part f (k + 1) n (omega arith), length-append (joined f k) (f k), ap length (joined_more f k))

    pub writing_length : length after ≡ length before
    writing_length = goes_length w.goes
