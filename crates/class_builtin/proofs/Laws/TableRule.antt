-- What 01 asks of the built-in table, sentence by sentence: of the entry e of the code point p.
-- That each flag and letter is the one that Unicode gives the character is not said here: the oracle's run says it (tables/README.md).
-- Assumes nothing.
use Prim.Native.Nat.{ℕ, ◌+◌}
use mathlib.Core.Bool.{Bool, true, false, ◌||◌}
use mathlib.Core.Path.{◌≡◌}
use lib.Dec.{leb, ltb}
use Rattle.base.specs.Flags.{has, ASCII, ASCII_ALPHABETIC, ASCII_GRAPHIC, ASCII_DIGIT, LATIN, ACCENTUATED}
use Rattle.base.specs.FlagRule.{flag_rule}
use Rattle.base.specs.Numbers.{bump}
use Rattle.base.specs.Tests.{within, scalar}
use Rattle.class_builtin.specs.declared.Entry.{Entry}

-- the ASCII characters, and those among them that an ASCII bit names
abbrev pub is_ascii : ℕ → Bool
is_ascii p = ltb p 0x80

abbrev pub is_ascii_letter : ℕ → Bool
is_ascii_letter p = within 0x41 0x5A p || within 0x61 0x7A p

abbrev pub is_ascii_graphic : ℕ → Bool
is_ascii_graphic p = within 0x21 0x7E p

abbrev pub is_ascii_digit : ℕ → Bool
is_ascii_digit p = within 0x30 0x39 p

-- "Ranges are numbered from 1 by first code point, in the built-in table too": the first code points of the five ranges here
abbrev pub CONTROL_CHARACTERS : ℕ
CONTROL_CHARACTERS = 0x0

abbrev pub BASIC_LATIN : ℕ
BASIC_LATIN = 0x20

abbrev pub LATIN_1_SUPPLEMENT : ℕ
LATIN_1_SUPPLEMENT = 0x80

abbrev pub LATIN_EXTENDED_A : ℕ
LATIN_EXTENDED_A = 0x100

abbrev pub LATIN_EXTENDED_B : ℕ
LATIN_EXTENDED_B = 0x180

-- how many of them are p or stand before it
unfoldable pub range_of : ℕ → ℕ
range_of p =
    bump (leb CONTROL_CHARACTERS p)
    + bump (leb BASIC_LATIN p)
    + bump (leb LATIN_1_SUPPLEMENT p)
    + bump (leb LATIN_EXTENDED_A p)
    + bump (leb LATIN_EXTENDED_B p)

pub record Lawful (p : ℕ) (e : Entry) : Type 0 where
  -- "its rule is the flag rule below, with ASCII bits exactly on the ASCII characters they name"
  pub flags : flag_rule e.flags ≡ true
  pub ascii : has e.flags ASCII ≡ is_ascii p
  pub letter : has e.flags ASCII_ALPHABETIC ≡ is_ascii_letter p
  pub graphic : has e.flags ASCII_GRAPHIC ≡ is_ascii_graphic p
  pub digit : has e.flags ASCII_DIGIT ≡ is_ascii_digit p
  -- "ASCII letters are LATIN and not ACCENTUATED"
  pub latin : is_ascii_letter p ≡ true → has e.flags LATIN ≡ true
  pub plain : is_ascii_letter p ≡ true → has e.flags ACCENTUATED ≡ false
  -- "Ranges are numbered from 1 by first code point, in the built-in table too"
  pub range : e.range ≡ range_of p
  -- "base and lower 0 or a scalar value": 0, which stands for the character itself, is a scalar value too
  pub base : scalar e.base ≡ true
  pub lower : scalar e.lower ≡ true
  -- a base stands only where it is ever read
  pub baseless : has e.flags ACCENTUATED ≡ false → e.base ≡ 0
