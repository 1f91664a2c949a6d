-- The 25 flag bits of a class word (01: "Flags keep the crate's bits 0 to 23; bit 24 (added) means `char::is_alphabetic`"), by weight,
-- and the test of a bit. The names are those of md/structs.rs, with - for _. The same names stand in src/flags.rt.
-- Assumes nothing.
use Rattle.std.specs.Prelude.{ℕ, ◌/◌, ◌%◌, Bool, eqb}

-- whether the bit of weight `bit`, a power of two, is set in a flag word
unfoldable pub has : ℕ → ℕ → Bool
has flags bit = eqb (flags / bit % 2) 1

abbrev pub WHITESPACE : ℕ
WHITESPACE = 0x1

abbrev pub UNPRINTABLE : ℕ
UNPRINTABLE = 0x2

abbrev pub SYMBOL : ℕ
SYMBOL = 0x4

abbrev pub EMOTICON : ℕ
EMOTICON = 0x8

abbrev pub COMMON_SAFE : ℕ
COMMON_SAFE = 0x10

abbrev pub WEIRD_SAFE : ℕ
WEIRD_SAFE = 0x20

abbrev pub PUNCTUATION : ℕ
PUNCTUATION = 0x40

abbrev pub SEPARATOR : ℕ
SEPARATOR = 0x80

abbrev pub ASCII : ℕ
ASCII = 0x100

abbrev pub ASCII_ALPHABETIC : ℕ
ASCII_ALPHABETIC = 0x200

abbrev pub ASCII_GRAPHIC : ℕ
ASCII_GRAPHIC = 0x400

abbrev pub ASCII_DIGIT : ℕ
ASCII_DIGIT = 0x800

abbrev pub LATIN : ℕ
LATIN = 0x1000

abbrev pub ALPHABETIC : ℕ
ALPHABETIC = 0x2000

abbrev pub ACCENTUATED : ℕ
ACCENTUATED = 0x4000

abbrev pub CJK : ℕ
CJK = 0x8000

abbrev pub HANGUL : ℕ
HANGUL = 0x10000

abbrev pub KATAKANA : ℕ
KATAKANA = 0x20000

abbrev pub HIRAGANA : ℕ
HIRAGANA = 0x40000

abbrev pub THAI : ℕ
THAI = 0x80000

abbrev pub CASE_VARIABLE : ℕ
CASE_VARIABLE = 0x100000

abbrev pub LOWERCASE : ℕ
LOWERCASE = 0x200000

abbrev pub UPPERCASE : ℕ
UPPERCASE = 0x400000

abbrev pub NUMERIC : ℕ
NUMERIC = 0x800000

-- added by 01: `char::is_alphabetic`
abbrev pub CHAR_ALPHABETIC : ℕ
CHAR_ALPHABETIC = 0x1000000

-- bits 25 to 31 are clear exactly in the words below this
abbrev pub FLAGS_END : ℕ
FLAGS_END = 0x2000000
