-- Words of inner contracts, beside SuperWeirdWord: `Room`, `Unwatched`, and what a run of characters with the same flags comes to. No public promise rests on them.
-- Assumes nothing.
use Rattle.std.specs.Prelude.{ℕ, ◌+◌, ◌≤◌, ◌≡◌, false, cond, ◌||◌}
use Rattle.base.specs.Flags.{has, ASCII_ALPHABETIC, ACCENTUATED, UPPERCASE}
use Rattle.ratio.specs.Inner.Fraction.{MOST_NUM}
use Rattle.md_words.specs.declared.super_weird_word.SuperWeirdWord.{SuperWeirdWord}
use Rattle.md_words.specs.SuperWeirdWord.{watched}

-- room for one character more in each count
pub record Room (s : SuperWeirdWord) : Type 0 where
  pub characters : s.characters ≤ MOST_NUM
  pub words : s.words ≤ MOST_NUM
  pub foreign : s.foreign ≤ MOST_NUM
  pub spoilt : s.spoilt ≤ MOST_NUM
  pub accents : s.accents ≤ MOST_NUM
  pub uppercase : s.uppercase ≤ MOST_NUM
  pub length : s.length ≤ MOST_NUM

-- no letter has made the open word foreign, and none of its letters has an accent: so it is over a table whose ASCII letters are Latin and have none
pub record Unwatched (s : SuperWeirdWord) : Type 0 where
  pub watch : s.watch ≡ false
  pub accents : s.accents ≡ 0

-- m letters enter the word, at least one
unfoldable pub letters : SuperWeirdWord → ℕ → ℕ → SuperWeirdWord
letters s f m =
    record {
      characters = s.characters;
      words = s.words;
      foreign = s.foreign;
      spoilt = s.spoilt;
      bad = s.bad;
      watch = s.watch || watched f;
      accents = s.accents + cond (has f ACCENTUATED) m 0;
      uppercase = s.uppercase + cond (has f UPPERCASE) m 0;
      length = s.length + m;
      last = f;
    }

-- m letters, or m characters that are passed over
unfoldable pub feed_run : SuperWeirdWord → ℕ → ℕ → SuperWeirdWord
feed_run s f m = cond (has f ASCII_ALPHABETIC) (letters s f m) s
