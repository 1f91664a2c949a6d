-- The marked cases (01, "Marked and run"), one table: "(a), (j), (k) of the whole scan, the others of one detector fed just these characters
-- without the newline". A score or a ratio is given by the bits of its f32. Where a case needs a character past U+024F, or a suspicious pair of ranges,
-- its record or its pair stands with it. When a case is right is said by the definitions that the calls' contracts equate their answers with.
-- Assumes nothing.
use Rattle.std.specs.Prelude.{ℕ, ◌+◌, ◌*◌, ◌/◌, ◌%◌, ◌^◌, Bool, true, false, ◌&&◌, List, [], ◌∷◌, ◌++◌, eqb, length, replicate, set, Result, Ok, Err, Option, Some, None}
use Rattle.std.specs.Float.Ieee.{of_bits, to_bits}
use Rattle.std.specs.Float.{binary32}
use Rattle.base.specs.declared.Refusal.{Refusal}
use Rattle.base.specs.Every.{both_tests}
use Rattle.base.specs.Flags.{ALPHABETIC, CJK, CASE_VARIABLE, LOWERCASE, CHAR_ALPHABETIC}
use Rattle.base.specs.Limits.{PAIR_BYTES, RANGES}
use Rattle.base.specs.Tests.{same}
use Rattle.classes.specs.declared.Class.{Class}
use Rattle.classes.specs.Lookup.{class_of}
use Rattle.class_records.specs.Records.{good_table}
use Rattle.md_meaning.specs.MessRatio.{mess_ratio}
use Rattle.program.specs.Program.{NO_CLASSES, NO_PAIRS}
use Rattle.pieces.specs.Words.{codes}
use Rattle.marked_cases.specs.Alone.{Detector, Symbols, Accents, Ranges, Stops, Archaic, ratio_of}
use Rattle.md_meaning.specs.declared.Score.{Score}

pub data Case : Type 0 where
  -- the whole scan of a text, at a threshold: the score, the characters fed, whether it stopped
  Whole : List ℕ → ℕ → ℕ → ℕ → Bool → Case
  -- a detector alone, fed a text over these class records and this pair table: the ratio
  Alone : Detector → List ℕ → List ℕ → List ℕ → ℕ → Case

-- the bits of f32 +0.0 and 0.2
abbrev pub ZERO_BITS : ℕ
ZERO_BITS = 0

abbrev pub ONE_FIFTH : ℕ
ONE_FIFTH = 0x3E4CCCCD

-- U+0061, of which the long texts are made
abbrev pub LETTER : ℕ
LETTER = 0x61

abbrev pub u16 : ℕ → List ℕ
u16 n = (n % 256) ∷ (n / 256) ∷ []

abbrev pub u32 : ℕ → List ℕ
u32 n = u16 (n % 65536) ++ u16 (n / 65536)

-- a class record: "first u32, last u32, flags u32, range u16, zero u16, base u32, lower u32", base and lower the character itself
abbrev pub class_record : ℕ → ℕ → ℕ → ℕ → List ℕ
class_record first last flags range = u32 first ++ u32 last ++ u32 flags ++ u16 range ++ u16 0 ++ u32 0 ++ u32 0

abbrev pub CJK_LETTERS : List ℕ
CJK_LETTERS = class_record 0x4E00 0x9FFF (ALPHABETIC + CJK + CHAR_ALPHABETIC) 120

abbrev pub CYRILLIC_LETTERS : List ℕ
CYRILLIC_LETTERS = class_record 0x430 0x44F (ALPHABETIC + CASE_VARIABLE + LOWERCASE + CHAR_ALPHABETIC) 10

-- the ranges of a Latin letter below U+0080 and of a Cyrillic one
abbrev pub BASIC_LATIN : ℕ
BASIC_LATIN = 2

abbrev pub CYRILLIC : ℕ
CYRILLIC = 10

-- a pair table in which only range b after range a is suspicious
unfoldable pub one_pair : ℕ → ℕ → List ℕ
one_pair a b = set (replicate PAIR_BYTES 0) ((RANGES * a + b) / 8) (2 ^ ((RANGES * a + b) % 8))

unfoldable pub cases : List Case
cases =
    -- (a) empty text: 0, fed 1
    Whole [] ONE_FIFTH ZERO_BITS 1 false
    -- (b) 10 different characters, 3 counted punctuation: bits 3E99999A
    ∷ Alone Symbols (codes "abcdefg!?.") NO_CLASSES NO_PAIRS 0x3E99999A
    -- (c) 11, 3: 0
    ∷ Alone Symbols (codes "abcdefgh!?.") NO_CLASSES NO_PAIRS ZERO_BITS
    -- (d) 7 accents of 7: 0
    ∷ Alone Accents (codes "éàèùâêî") NO_CLASSES NO_PAIRS ZERO_BITS
    -- (e) 7 of 20: kept, 7/20
    ∷ Alone Accents (codes "éàèùâêîabcdefghijklm") NO_CLASSES NO_PAIRS 0x3EB33333
    -- (f) 1 suspicious of 20: kept, 2/20
    ∷ Alone Ranges (codes "abcdefghijklmnopqrsж") CYRILLIC_LETTERS (one_pair BASIC_LATIN CYRILLIC) 0x3DCCCCCD
    -- (g) of 21: 0
    ∷ Alone Ranges (codes "abcdefghijklmnopqrstж") CYRILLIC_LETTERS (one_pair BASIC_LATIN CYRILLIC) ZERO_BITS
    -- (h) 15 CJK, 4 stops: 0
    ∷ Alone Stops (codes "一丁七万丈三上下不与丏丐丑专且丄丅丄丅") CJK_LETTERS NO_PAIRS ZERO_BITS
    -- (i) 16, 4: 0.25
    ∷ Alone Stops (codes "一丁七万丈三上下不与丏丐丑专且丕丄丅丄丅") CJK_LETTERS NO_PAIRS 0x3E800000
    -- (j) threshold 0, 31 characters: stops, fed 32 with the newline
    ∷ Whole (replicate 31 LETTER) ZERO_BITS ZERO_BITS 32 true
    -- (k) threshold 0, 511 characters: stops, fed 64
    ∷ Whole (replicate 511 LETTER) ZERO_BITS ZERO_BITS 64 true
    -- (l) non-ASCII upper, lower, upper, then space: archaic 0.5
    ∷ Alone Archaic (codes "ÉéÉ ") NO_CLASSES NO_PAIRS 0x3F000000
    ∷ []

-- the answer is this score
unfoldable pub tells : Result Score Refusal → ℕ → ℕ → Bool → Bool
tells (Ok s) score fed stopped = eqb (to_bits binary32 s.sum) score && eqb s.fed fed && same s.stopped stopped
tells (Err r) score fed stopped = false

-- the classes of a text were all found, and f holds of them
abbrev pub with_class : Option Class → (Class → Bool) → Bool
with_class (Some c) f = f c
with_class None f = false

unfoldable pub with_classes : List ℕ → List ℕ → (List Class → Bool) → Bool
with_classes classes [] f = f []
with_classes classes (p ∷ ps) f = with_class (class_of classes p) (λ c. with_classes classes ps (λ cs. f (c ∷ cs)))

unfoldable pub right : Case → Bool
right (Whole text threshold score fed stopped) = tells (mess_ratio text (of_bits binary32 threshold) NO_CLASSES NO_PAIRS) score fed stopped
right (Alone d text classes pairs ratio) =
    good_table classes && eqb (length pairs) PAIR_BYTES && with_classes classes text (λ cs. eqb (to_bits binary32 (ratio_of d pairs cs)) ratio)

abbrev pub all : (Case → Bool) → List Case → Bool
all f [] = true
all f (c ∷ cs) = both_tests (f c) (all f cs)
