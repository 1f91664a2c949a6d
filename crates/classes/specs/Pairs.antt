-- The pair table (01, "Tables"): "bit 512a+b, lowest bit of a byte first, says that range b after range a is suspicious"; and its size, without
-- which it is refused (7).
-- Assumes nothing.
use Rattle.std.specs.Prelude.{ℕ, ◌+◌, ◌*◌, ◌/◌, ◌%◌, ◌^◌, List, Bool, not, eqb, length, get_or, Result, ⊤}
use Rattle.base.specs.declared.Refusal.{Refusal}
use Rattle.base.specs.Causes.{given}
use Rattle.base.specs.Flags.{has}
use Rattle.base.specs.Limits.{RANGES, PAIR_BYTES}
use Rattle.base.specs.declared.refusals.Cause.TheVariants.{BadPairs}

-- the bit k of a list of bytes, eight to a byte, the lowest first
unfoldable pub bit_of : List ℕ → ℕ → Bool
bit_of t k = has (get_or t (k / 8) 0) (2 ^ (k % 8))

unfoldable pub suspicious : List ℕ → ℕ → ℕ → Bool
suspicious t a b = bit_of t (RANGES * a + b)

-- 7: "pair table not 32,768 bytes"
unfoldable pub bad_pairs : List ℕ → Result ⊤ Refusal
bad_pairs t = given (not (eqb (length t) PAIR_BYTES)) BadPairs 0
