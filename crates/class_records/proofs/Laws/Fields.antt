-- A word of four bytes and its halves; and the tests of a record's fields as the code puts them: range and zero as one word, and 0 among the
-- scalar values.
-- Assumes nothing.
use Prim.Native.Nat.{ℕ, ◌+◌, ◌*◌, ◌/◌, ◌%◌, ◌≤◌, ◌<◌}
use mathlib.Core.List.{List}
use mathlib.Core.Path.{◌≡◌}
use mathlib.Core.Bool.{◌&&◌}
use native.Mathlib.Omega.{arith}
use lib.Dec.{eqb, leb}
use borrow.Author.Tests.{eqb-true, eqb-false, leb-true, leb-false, le-leb, lt-leb}
use Rattle.base.specs.Limits.{CLASS_RECORD, LAST_RANGE}
use Rattle.base.specs.Tests.{scalar}
use Rattle.base.proofs.Laws.Tests.{by_bool}
use Rattle.base.specs.Inner.LittleEndian.{Word}
use Rattle.class_records.specs.Records.{none_or_scalar, record_at}
use Rattle.class_records.specs.declared.Record.{Record}

-- the word of range and zero is at most 511 exactly where range is and zero is 0
pub word : (range pad : ℕ) → leb (range + 65536 * pad) LAST_RANGE ≡ (leb range LAST_RANGE && eqb pad 0)
word range pad =
    by_bool (eqb pad 0)
    (λ e. rw (e, eqb-true pad 0 e) (by_bool (leb range LAST_RANGE)
    (λ l. rw (l, le-leb (range + 65536 * 0) LAST_RANGE (same_le range (leb-true range LAST_RANGE l))))
    (λ l. rw (l, lt-leb (range + 65536 * 0) LAST_RANGE (same_lt range (leb-false range LAST_RANGE l))))))
    (λ e. rw e (by_bool (leb range LAST_RANGE)
    (λ l. rw (l, lt-leb (range + 65536 * pad) LAST_RANGE (above range pad (eqb-false pad 0 e))))
    (λ l. rw (l, lt-leb (range + 65536 * pad) LAST_RANGE (above range pad (eqb-false pad 0 e))))))
  where
    same_le : (r : ℕ) → r ≤ LAST_RANGE → r + 65536 * 0 ≤ LAST_RANGE
    same_le r h = omega arith

    same_lt : (r : ℕ) → LAST_RANGE < r → LAST_RANGE < r + 65536 * 0
    same_lt r h = omega arith

    above : (r z : ℕ) → (z ≡ 0 → ⊥) → LAST_RANGE < r + 65536 * z
    above r z h = omega arith

pub zero_scalar : (p : ℕ) → scalar p ≡ none_or_scalar p
unfolding scalar none_or_scalar
zero_scalar p = by_bool (eqb p 0) (λ e. rw (eqb-true p 0 e)) (λ e. rw e)

-- the six words of a record, the fourth of them range and zero
pub record_of_lem : (t : List ℕ) (i first last flags word base lower : ℕ)
    → Word t (i * CLASS_RECORD) first
    → Word t (i * CLASS_RECORD + 4) last
    → Word t (i * CLASS_RECORD + 8) flags
    → Word t (i * CLASS_RECORD + 12) word
    → Word t (i * CLASS_RECORD + 16) base
    → Word t (i * CLASS_RECORD + 20) lower
    → ◌≡◌ {A = Record}
    (record { first = first; last = last; flags = flags; range = word % 65536; zero = word / 65536; base = base; lower = lower })
    (record_at t i)
unfolding record_at
record_of_lem t i first last flags word base lower a b c d e f =
    let z : i * CLASS_RECORD + 12 + 2 ≡ i * CLASS_RECORD + 14 = omega arith in
    rw (a.is, b.is, c.is, d.low, d.high, e.is, f.is, z)
