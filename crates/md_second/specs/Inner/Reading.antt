-- Words of inner contracts: the two readers. What they carry is the definitions' state of weird words in two parts, the words that are closed and the one
-- that is being read (`weird`), and that of archaic case without its number of characters, which the place in the text gives (`archaic_of`). No public
-- promise rests on them.
-- Assumes nothing.
use Rattle.std.specs.Prelude.{ℕ, ◌+◌, ◌≤◌, ◌<◌, ◌≡◌, Bool, true, false, cond, not, ◌&&◌, ◌||◌, List, ltb, get_or}
use Rattle.base.specs.Flags.{has, ASCII_ALPHABETIC, ACCENTUATED, UPPERCASE}
use Rattle.base.specs.Numbers.{bump}
use Rattle.ratio.specs.Inner.Fraction.{MOST_NUM}
use Rattle.md_words.specs.declared.super_weird_word.SuperWeirdWord.{SuperWeirdWord}
use Rattle.md_words.specs.declared.archaic_upper_lower.ArchaicUpperLower.{ArchaicUpperLower}
use Rattle.md_words.specs.SuperWeirdWord.{closes, counted, watched, accented, capital, long}
use Rattle.md_words.specs.ArchaicUpperLower as archaic
use Rattle.md_second.specs.declared.readers.Words.{Words}
use Rattle.md_second.specs.declared.readers.Word.{Word}
use Rattle.md_second.specs.declared.readers.Case.{Case}
use Rattle.md_second.specs.declared.readers.Reading.{Reading}
use Rattle.md_second.specs.Inner.After.{seen, words_after, archaic_after}
use Rattle.md_second.specs.Inner.Lists.{Fits}

-- ---- weird words
abbrev pub no_word : Word
no_word = record { length = 0; accents = 0; uppercase = 0; last = 0; watch = false; bad = false }

abbrev pub no_words : Words
no_words = record { characters = 0; words = 0; foreign = 0; spoilt = 0 }

-- the definition's state, of its two parts
abbrev pub weird : Words → Word → SuperWeirdWord
weird t w =
    record {
      characters = t.characters;
      words = t.words;
      foreign = t.foreign;
      spoilt = t.spoilt;
      bad = w.bad;
      watch = w.watch;
      accents = w.accents;
      uppercase = w.uppercase;
      length = w.length;
      last = w.last;
    }

-- a character of a gap
unfoldable pub is_gap : ℕ → Bool
is_gap f = not (has f ASCII_ALPHABETIC) && closes f

-- a symbol that enters a word where a letter has entered it
unfoldable pub odd_in : Word → ℕ → Bool
odd_in w f = not (has f ASCII_ALPHABETIC) && ltb 0 w.length && counted f

-- a character of a word: an ASCII letter enters it, and an odd symbol once a letter has
unfoldable pub entered : Word → ℕ → Word
entered w f =
    record {
      length = w.length + bump (has f ASCII_ALPHABETIC || odd_in w f);
      accents = w.accents + bump (has f ASCII_ALPHABETIC && has f ACCENTUATED);
      uppercase = w.uppercase + bump ((has f ASCII_ALPHABETIC || odd_in w f) && has f UPPERCASE);
      last = cond (has f ASCII_ALPHABETIC || odd_in w f) f w.last;
      watch = w.watch || (has f ASCII_ALPHABETIC && watched f);
      bad = w.bad || odd_in w f;
    }

-- the words with this one closed, if a letter has entered it
unfoldable pub closed : Words → Word → Words
closed t w =
    record {
      characters = t.characters + w.length;
      words = t.words + bump (ltb 0 w.length);
      foreign = t.foreign + bump (capital (weird no_words w)) + bump (long (weird no_words w));
      spoilt = t.spoilt + cond (w.bad || accented (weird no_words w) || capital (weird no_words w) || long (weird no_words w)) w.length 0;
    }

pub record WordRoom (w : Word) : Type 0 where
  pub length : w.length ≤ MOST_NUM
  pub accents : w.accents ≤ MOST_NUM
  pub uppercase : w.uppercase ≤ MOST_NUM

pub record WordsRoom (t : Words) : Type 0 where
  pub characters : t.characters ≤ MOST_NUM
  pub words : t.words ≤ MOST_NUM
  pub foreign : t.foreign ≤ MOST_NUM
  pub spoilt : t.spoilt ≤ MOST_NUM

-- ---- archaic case
abbrev pub no_case : Case
no_case = record { since = 0; run = 0; total = 0; last = 0; ascii = true; changed = false }

-- the definition's state after k characters
abbrev pub archaic_of : ℕ → Case → ArchaicUpperLower
archaic_of k c =
    record {
      characters = k;
      since = c.since;
      run = c.run;
      total = c.total;
      last = c.last;
      ascii = c.ascii;
      buf = c.changed;
    }

abbrev pub case_of : ArchaicUpperLower → Case
case_of s = record { since = s.since; run = s.run; total = s.total; last = s.last; ascii = s.ascii; changed = s.buf }

-- one character more
unfoldable pub cased : Case → ℕ → Case
cased c f = case_of (archaic.feed (archaic_of 0 c) (seen 0 f 0 0))

pub record CaseRoom (c : Case) : Type 0 where
  pub since : c.since ≤ MOST_NUM
  pub run : c.run ≤ MOST_NUM
  pub total : c.total ≤ MOST_NUM

-- ---- what is handed over
-- the definition's state with its word closed
abbrev pub shut : SuperWeirdWord → SuperWeirdWord
shut s =
    weird
    (closed (record { characters = s.characters; words = s.words; foreign = s.foreign; spoilt = s.spoilt })
    (record { length = s.length; accents = s.accents; uppercase = s.uppercase; last = s.last; watch = s.watch; bad = s.bad }))
    no_word

-- nothing was read
abbrev pub unread : Reading
unread = record { words = no_words; case = no_case }

-- to the word reader: a character of a word stands there, and no word is open
pub record ToWord (flags : List ℕ) (n at : ℕ) (s : Reading) : Type 0 where
  pub fits : Fits flags n
  pub below : at < n
  pub kind : is_gap (get_or flags at 0) ≡ false
  pub words : words_after flags at ≡ weird s.words no_word
  pub case : archaic_after flags at ≡ archaic_of at s.case

-- to the gap reader: a character of a gap stands there, which closes the word
pub record ToGap (flags : List ℕ) (n at : ℕ) (s : Reading) : Type 0 where
  pub fits : Fits flags n
  pub below : at < n
  pub kind : is_gap (get_or flags at 0) ≡ true
  pub words : shut (words_after flags at) ≡ weird s.words no_word
  pub case : archaic_after flags at ≡ archaic_of at s.case

-- what both bring back of the first n characters: the counts of the definitions' states
pub record Read (flags : List ℕ) (n : ℕ) (r : Reading) : Type 0 where
  pub characters : r.words.characters ≡ (words_after flags n).characters
  pub words : r.words.words ≡ (words_after flags n).words
  pub foreign : r.words.foreign ≡ (words_after flags n).foreign
  pub spoilt : r.words.spoilt ≡ (words_after flags n).spoilt
  pub total : r.case.total ≡ (archaic_after flags n).total
  pub fed : n ≡ (archaic_after flags n).characters
