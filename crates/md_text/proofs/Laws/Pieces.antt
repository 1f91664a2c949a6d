-- A piece of a text has no checkpoint inside: for each of the three periods, the end of the period that i stands in, or the end of the text.
-- Assumes nothing.
use Prim.Native.Nat.{ℕ, ◌+◌, ◌*◌, ◌/◌, ◌%◌, ◌≤◌, ◌<◌}
use mathlib.Core.Path.{◌≡◌}
use mathlib.Core.Bool.{false}
use native.Mathlib.Omega.{arith}
use borrow.Author.Tests.{le-leb, lt-leb, ne_eqb}
use Rattle.md_meaning.specs.Text.{checkpoint, period, SHORT_LENGTH, MIDDLE_LENGTH, SHORT_PERIOD, MIDDLE_PERIOD, LONG_PERIOD}
use Rattle.md_text.specs.Inner.Pieces.{Nearer, Piece}

short_quiet : (n i j : ℕ) → n ≤ SHORT_LENGTH → i ≤ j → j + 1 < i / SHORT_PERIOD * SHORT_PERIOD + SHORT_PERIOD → checkpoint n j ≡ false
unfolding checkpoint period
short_quiet n i j h l k = simp (le-leb n SHORT_LENGTH h) (ne_eqb (j % 32) 31 (λ e. omega (arith, e, l, k)))

middle_quiet : (n i j : ℕ) → SHORT_LENGTH < n → n ≤ MIDDLE_LENGTH → i ≤ j → j + 1 < i / MIDDLE_PERIOD * MIDDLE_PERIOD + MIDDLE_PERIOD → checkpoint n j ≡ false
unfolding checkpoint period
middle_quiet n i j g h l k = simp (lt-leb n SHORT_LENGTH g, le-leb n MIDDLE_LENGTH h) (ne_eqb (j % 64) 63 (λ e. omega (arith, e, l, k)))

long_quiet : (n i j : ℕ) → SHORT_LENGTH < n → MIDDLE_LENGTH < n → i ≤ j → j + 1 < i / LONG_PERIOD * LONG_PERIOD + LONG_PERIOD → checkpoint n j ≡ false
unfolding checkpoint period
long_quiet n i j g h l k = simp (lt-leb n SHORT_LENGTH g, lt-leb n MIDDLE_LENGTH h) (ne_eqb (j % 128) 127 (λ e. omega (arith, e, l, k)))

module _ (n i r : ℕ) (h : i < n) where
  pub piece_short : n ≤ SHORT_LENGTH → Nearer (i / SHORT_PERIOD * SHORT_PERIOD + SHORT_PERIOD) n r → Piece n i r
  piece_short s k =
      record {
        begins = k.some i (omega arith) h;
        ends = k.second;
        quiet = λ j a b. short_quiet n i j s a (omega (arith, b, k.first));
      }

  pub piece_middle : SHORT_LENGTH < n → n ≤ MIDDLE_LENGTH → Nearer (i / MIDDLE_PERIOD * MIDDLE_PERIOD + MIDDLE_PERIOD) n r → Piece n i r
  piece_middle g s k =
      record {
        begins = k.some i (omega arith) h;
        ends = k.second;
        quiet = λ j a b. middle_quiet n i j g s a (omega (arith, b, k.first));
      }

  pub piece_long : SHORT_LENGTH < n → MIDDLE_LENGTH < n → Nearer (i / LONG_PERIOD * LONG_PERIOD + LONG_PERIOD) n r → Piece n i r
  piece_long g s k =
      record {
        begins = k.some i (omega arith) h;
        ends = k.second;
        quiet = λ j a b. long_quiet n i j g s a (omega (arith, b, k.first));
      }
