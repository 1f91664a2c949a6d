-- Weird words (01): "only ASCII letters and counted symbols enter a word. 0 if at most 10 words and no foreign long one. Accents over
-- 17/50, from 4 characters in the word; camel case above 0 and up to 3/10, from 24." The Rust's SuperWeirdWordPlugin; its `Vec` is "counts
-- and the last flags": the length, the capitals among all its characters, the accents among its letters, the flags of its last character. The laws
-- stand in proofs/Laws/SuperWeirdWord.
-- Assumes nothing.
use Rattle.std.specs.Prelude.{ℕ, ◌+◌, Bool, false, true, cond, not, ◌&&◌, ◌||◌, leb, ltb, eqb}
use Rattle.base.specs.Flags.{has, WHITESPACE, SYMBOL, WEIRD_SAFE, PUNCTUATION, SEPARATOR, ASCII_ALPHABETIC, ASCII_DIGIT, LATIN, ACCENTUATED, CJK, HANGUL, KATAKANA, HIRAGANA, THAI, UPPERCASE}
use Rattle.base.specs.Numbers.{bump}
use Rattle.classes.specs.declared.Class.{Class}
use Rattle.ratio.specs.declared.Fraction.{Fraction}
use Rattle.ratio.specs.declared.Counts.{Counts}
use Rattle.ratio.specs.Fraction.{counts_of}
use Rattle.ratio.specs.CutOffs.{above, at_most}
use Rattle.md_words.specs.declared.super_weird_word.SuperWeirdWord.{SuperWeirdWord}

-- "0 if at most 10 words"
abbrev pub FEW_WORDS : ℕ
FEW_WORDS = 10

-- "from 4 characters in the word"
abbrev pub SHORT_WORD : ℕ
SHORT_WORD = 4

-- "from 24"
abbrev pub LONG_WORD : ℕ
LONG_WORD = 24

-- "Accents over 17/50"
abbrev pub ACCENTS_PART : ℕ
ACCENTS_PART = 17

abbrev pub ACCENTS_WHOLE : ℕ
ACCENTS_WHOLE = 50

-- "camel case above 0 and up to 3/10"
abbrev pub CAMEL_PART : ℕ
CAMEL_PART = 3

abbrev pub CAMEL_WHOLE : ℕ
CAMEL_WHOLE = 10

-- nothing was fed
abbrev pub start : SuperWeirdWord
start =
    record {
      characters = 0;
      words = 0;
      foreign = 0;
      spoilt = 0;
      bad = false;
      watch = false;
      accents = 0;
      uppercase = 0;
      length = 0;
      last = 0;
    }

-- a letter that makes its word foreign: either not LATIN, or ACCENTUATED; and of none of the five other scripts
unfoldable pub watched : ℕ → Bool
watched f =
    (not (has f LATIN) || has f ACCENTUATED)
    && not (has f CJK)
    && not (has f HANGUL)
    && not (has f KATAKANA)
    && not (has f HIRAGANA)
    && not (has f THAI)

-- a character that closes a word
unfoldable pub closes : ℕ → Bool
closes f = has f WHITESPACE || has f PUNCTUATION || has f SEPARATOR

-- a counted symbol
unfoldable pub counted : ℕ → Bool
counted f = not (has f WEIRD_SAFE) && not (has f ASCII_DIGIT) && has f SYMBOL

-- an ASCII letter enters the word
unfoldable pub letter : SuperWeirdWord → ℕ → SuperWeirdWord
letter s f =
    record {
      characters = s.characters;
      words = s.words;
      foreign = s.foreign;
      spoilt = s.spoilt;
      bad = s.bad;
      watch = s.watch || watched f;
      accents = s.accents + bump (has f ACCENTUATED);
      uppercase = s.uppercase + bump (has f UPPERCASE);
      length = s.length + 1;
      last = f;
    }

-- a counted symbol enters the word, which is bad from then on
unfoldable pub symbol : SuperWeirdWord → ℕ → SuperWeirdWord
symbol s f =
    record {
      characters = s.characters;
      words = s.words;
      foreign = s.foreign;
      spoilt = s.spoilt;
      bad = true;
      watch = s.watch;
      accents = s.accents;
      uppercase = s.uppercase + bump (has f UPPERCASE);
      length = s.length + 1;
      last = f;
    }

-- "Accents over 17/50, from 4 characters in the word"
unfoldable pub accented : SuperWeirdWord → Bool
accented s = leb SHORT_WORD s.length && above ACCENTS_PART ACCENTS_WHOLE (record { num = s.accents; den = s.length })

-- from 4 characters too: the last is an accented capital
unfoldable pub capital : SuperWeirdWord → Bool
capital s = leb SHORT_WORD s.length && has s.last ACCENTUATED && has s.last UPPERCASE

-- "camel case above 0 and up to 3/10"
unfoldable pub camel : SuperWeirdWord → Bool
camel s = ltb 0 s.uppercase && at_most CAMEL_PART CAMEL_WHOLE (record { num = s.uppercase; den = s.length })

-- "from 24": a word with a letter that makes it foreign, and no camel case
unfoldable pub long : SuperWeirdWord → Bool
long s = leb LONG_WORD s.length && s.watch && not (camel s)

-- the word is closed; an accented capital at its end and foreign length each count as a foreign long word
unfoldable pub close : SuperWeirdWord → SuperWeirdWord
close s =
    record {
      characters = s.characters + s.length;
      words = s.words + 1;
      foreign = s.foreign + bump (capital s) + bump (long s);
      spoilt = s.spoilt + cond (s.bad || accented s || capital s || long s) s.length 0;
      bad = false;
      watch = false;
      accents = 0;
      uppercase = 0;
      length = 0;
      last = 0;
    }

-- in a word, a character that is no letter: the closing test comes before the symbol test
unfoldable pub inside : SuperWeirdWord → ℕ → SuperWeirdWord
inside s f = cond (closes f) (close s) (cond (counted f) (symbol s f) s)

-- "only ASCII letters and counted symbols enter a word": letters always, symbols only where the word has begun
unfoldable pub feed : SuperWeirdWord → Class → SuperWeirdWord
feed s c =
    cond (has c.flags ASCII_ALPHABETIC) (letter s c.flags)
    (cond (eqb s.length 0) s (inside s c.flags))

-- the characters of bad words over those of all words
abbrev pub share : SuperWeirdWord → Fraction
share s = record { num = s.spoilt; den = s.characters }

-- "0 if at most 10 words and no foreign long one"
abbrev pub keeps : SuperWeirdWord → Bool
keeps s = not (leb s.words FEW_WORDS && eqb s.foreign 0)

unfoldable pub counts : SuperWeirdWord → Counts
counts s = counts_of (share s) (keeps s)
