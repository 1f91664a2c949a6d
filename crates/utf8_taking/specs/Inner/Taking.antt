-- Words of inner contracts, beside Text: `Room`, `Behind`, `Taken`, `Took`, the tests of one sequence and the numbers that lead it. No public promise rests on them.
-- Assumes nothing.
use Rattle.std.specs.Prelude.{ℕ, ◌+◌, ◌*◌, ◌/◌, ◌≤◌, ◌<◌, ◌≡◌, Bool, true, List, ◌++◌, length, take}
use Rattle.utf8_table.specs.WellFormed.{two, no_row, byte_at, step_at}
use Rattle.utf8_meaning.specs.Text.{after}
use Rattle.utf8_meaning.specs.Inner.Text.{from}

-- the first byte that is no ASCII, the first that leads three and the first that leads four bytes
abbrev pub NO_ASCII : ℕ
NO_ASCII = 0x80

abbrev pub LEADS_THREE : ℕ
LEADS_THREE = 0xE0

abbrev pub LEADS_FOUR : ℕ
LEADS_FOUR = 0xF0

-- sequences of two that are looked at together
abbrev pub AHEAD : ℕ
AHEAD = 8

-- bytes that a turn of three looks at
abbrev pub SPACED : ℕ
SPACED = 4

-- something is left to take at i, and from n on there is a place for each byte of it
pub record Room (bytes out : List ℕ) (i n : ℕ) : Type 0 where
  pub left : i < length bytes
  pub places : n + length bytes ≤ length out + i

-- the same where nothing may be left
pub record Behind (bytes out : List ℕ) (i n : ℕ) : Type 0 where
  pub inside : i ≤ length bytes
  pub places : n + length bytes ≤ length out + i

-- what `beyond_ascii` ensures of a byte: 1 where it is no ASCII, else 0
pub record Beyond (a r : ℕ) : Type 0 where
  pub is : r ≡ a / 128
  pub small : r ≤ 1

-- where a test holds, a sequence of two stands at i
abbrev pub IfTwo : Bool → List ℕ → ℕ → Type 0
IfTwo r bytes i = r ≡ true → step_at bytes i ≡ two (byte_at bytes i) (byte_at bytes (i + 1))

-- from i on f sequences of two stand one behind the other
pub record Twos (bytes : List ℕ) (i f : ℕ) : Type 0 where
  pub few : f ≤ AHEAD
  pub each : (k : ℕ) → k < f → step_at bytes (i + 2 * k) ≡ two (byte_at bytes (i + 2 * k)) (byte_at bytes (i + 2 * k + 1))

-- the bytes from i up to j are `points`, which stand in new from n up to m, behind what stood in old
pub record Taken (bytes old new : List ℕ) (i n j m : ℕ) : Type 0 where
  pub inside : j ≤ length bytes
  pub few : m + i ≤ n + j
  pub same : length new ≡ length old
  pub points : List ℕ
  pub many : n + length points ≡ m
  pub reads : from bytes i ≡ after points (from bytes j)
  pub front : take m new ≡ take n old ++ points

-- the same, and nothing is taken only where no sequence stands
pub record Took (bytes old new : List ℕ) (i n j m : ℕ) : Type 0 where
  pub taken : Taken bytes old new i n j m
  pub none : j ≡ i → step_at bytes i ≡ no_row

-- as many sequences of two as stand from i on stand in new from n on
abbrev pub Put : List ℕ → List ℕ → List ℕ → ℕ → ℕ → Type 0
Put bytes old new i n = (f : ℕ) → Twos bytes i f → Taken bytes old new i n (i + 2 * f) (n + f)
