-- The lent class table (01, "Tables"): its records, when one is good, the first bad one, when the table is good, and the record that holds
-- a code point. Not the class that a record gives (crate classes), nor the refusal of a table that is not good.
-- Assumes nothing.
use Rattle.std.specs.Prelude.{ℕ, ◌+◌, ◌*◌, ◌-◌, ◌/◌, ◌%◌, List, Bool, not, ◌&&◌, ◌||◌, length, leb, ltb, eqb}
use Rattle.base.specs.First.{first}
use Rattle.base.specs.FlagRule.{flag_rule}
use Rattle.base.specs.Flags.{has, ASCII, ASCII_ALPHABETIC, ASCII_GRAPHIC, ASCII_DIGIT}
use Rattle.base.specs.Limits.{BUILTIN_END, LAST_POINT, SURROGATE_FIRST, SURROGATE_LAST, CLASS_RECORD, MOST_CLASSES, LAST_RANGE}
use Rattle.base.specs.Tests.{scalar, within}
use Rattle.base.specs.LittleEndian.{le16, le32}
use Rattle.class_records.specs.declared.Record.{Record}

-- "records of 24 bytes, no header": how many there are
abbrev pub records : List ℕ → ℕ
records t = length t / CLASS_RECORD

-- "first u32, last u32, flags u32, range u16, zero u16, base u32, lower u32": the record i
unfoldable pub record_at : List ℕ → ℕ → Record
record_at t i =
    record {
      first = le32 t (i * CLASS_RECORD);
      last = le32 t (i * CLASS_RECORD + 4);
      flags = le32 t (i * CLASS_RECORD + 8);
      range = le16 t (i * CLASS_RECORD + 12);
      zero = le16 t (i * CLASS_RECORD + 14);
      base = le32 t (i * CLASS_RECORD + 16);
      lower = le32 t (i * CLASS_RECORD + 20);
    }

-- "U+0250 <= first <= last <= U+10FFFF; no surrogate inside"
unfoldable pub good_span : Record → Bool
good_span r =
    leb BUILTIN_END r.first && leb r.first r.last && leb r.last LAST_POINT
    && (ltb r.last SURROGATE_FIRST || ltb SURROGATE_LAST r.first)

-- "ASCII bits .. clear"
unfoldable pub no_ascii : ℕ → Bool
no_ascii f = not (has f ASCII) && not (has f ASCII_ALPHABETIC) && not (has f ASCII_GRAPHIC) && not (has f ASCII_DIGIT)

-- "flag rule met, ASCII bits and bits 25 to 31 clear" (the flag rule has the bits 25 to 31)
unfoldable pub good_flags : ℕ → Bool
good_flags f = flag_rule f && no_ascii f

-- "0 or a scalar value": base and lower
unfoldable pub none_or_scalar : ℕ → Bool
none_or_scalar p = eqb p 0 || scalar p

-- "range at most 511 (0 is none); the zero field zero; base and lower 0 or a scalar value", and the flags
unfoldable pub good_fields : Record → Bool
good_fields r =
    leb r.range LAST_RANGE
    && eqb r.zero 0
    && none_or_scalar r.base
    && none_or_scalar r.lower
    && good_flags r.flags

-- "ascending, no overlap": the record i starts past the last of the record before it. "Of two clashing entries the later is bad"
unfoldable pub follows : List ℕ → ℕ → Bool
follows t i = eqb i 0 || ltb (record_at t (i - 1)).last (record_at t i).first

unfoldable pub good_at : List ℕ → ℕ → Bool
good_at t i = good_span (record_at t i) && good_fields (record_at t i) && follows t i

-- the first bad record, or their number where none is bad
unfoldable pub first_bad : List ℕ → ℕ
first_bad t = first (λ i. not (good_at t i)) (records t)

-- "Good table: length divisible by 24", "at most 8,192 records", and no record bad
unfoldable pub good_table : List ℕ → Bool
good_table t = eqb (length t % CLASS_RECORD) 0 && leb (records t) MOST_CLASSES && eqb (first_bad t) (records t)

-- whether the record i holds a code point
unfoldable pub holds : List ℕ → ℕ → ℕ → Bool
holds t p i = within (record_at t i).first (record_at t i).last p

-- the record that holds a code point, or the number of records where none does. In a good table at most one does
unfoldable pub holder : List ℕ → ℕ → ℕ
holder t p = first (holds t p) (records t)
