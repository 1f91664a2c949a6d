-- Words of inner contracts, beside Detectors: what m characters of one kind in a row, at least one, come to in the eight detectors. The laws that tie them
-- to `feed` stand in proofs/Laws/Runs. No public promise rests on them.
-- Assumes nothing.
use Rattle.std.specs.Prelude.{ℕ, ◌+◌, Bool, not, ◌&&◌}
use Rattle.base.specs.Flags.{has, WHITESPACE, UNPRINTABLE, SYMBOL, COMMON_SAFE, PUNCTUATION, SEPARATOR, ASCII, ASCII_ALPHABETIC, ASCII_GRAPHIC}
use Rattle.base.specs.Flags.{LATIN, ALPHABETIC, ACCENTUATED, CASE_VARIABLE, LOWERCASE, UPPERCASE, CHAR_ALPHABETIC}
use Rattle.classes.specs.declared.Class.{Class}
use Rattle.md_eight.specs.declared.Detectors.{Detectors}
use Rattle.md_counts.specs.Inner.TooManySymbolOrPunctuation as symbols
use Rattle.md_counts.specs.Inner.TooManyAccentuated as accents
use Rattle.md_counts.specs.Inner.Unprintable as unprintable
use Rattle.md_neighbours.specs.Inner.SuspiciousRange as ranges
use Rattle.md_neighbours.specs.Inner.SuspiciousDuplicateAccent as doubled
use Rattle.md_words.specs.Inner.SuperWeirdWord as words
use Rattle.md_counts.specs.Inner.CjkInvalidStop as stops
use Rattle.md_words.specs.Inner.ArchaicUpperLower as archaic

-- the flags of a character that is printable, closes no word, is no symbol and lets ranges remember
unfoldable pub is_plain : ℕ → Bool
is_plain f =
    not (has f UNPRINTABLE)
    && not (has f WHITESPACE)
    && not (has f PUNCTUATION)
    && not (has f SEPARATOR)
    && not (has f SYMBOL)
    && not (has f COMMON_SAFE)

-- a letter without case, or any other character that enters no word
unfoldable pub is_uncased : ℕ → Bool
is_uncased f = is_plain f && not (has f ASCII_ALPHABETIC) && not (has f CASE_VARIABLE) && not (has f LATIN)

-- a letter of one case; accented Latin ones make no run
unfoldable pub is_cased : ℕ → Bool
is_cased f =
    is_plain f
    && has f ALPHABETIC
    && has f CASE_VARIABLE
    && not (has f LATIN && has f ACCENTUATED)
    && not (has f UPPERCASE && has f LOWERCASE)

-- m letters with c's flags and range, at least one, the last of them `point`, its base `base`. `suspicious` is as for `feed`, of the first; `again` is the
-- same of their range after itself
unfoldable pub cased_run : Detectors → Class → ℕ → ℕ → ℕ → Bool → Bool → Detectors
cased_run s c m point base suspicious again =
    record {
      symbols = symbols.feed_run s.symbols m point;
      accents = accents.feed_run s.accents c.flags m;
      unprintable = unprintable.feed_run s.unprintable m;
      ranges = ranges.feed_run s.ranges c.range m suspicious again;
      doubled = doubled.feed_run s.doubled c.flags base m;
      words = words.feed_run s.words c.flags m;
      stops = stops.feed_run s.stops c.flags m;
      archaic = archaic.feed_cased s.archaic c.flags m;
    }

-- the same of characters that have no case: doubled accents and weird words pass them over
unfoldable pub uncased_run : Detectors → Class → ℕ → ℕ → Bool → Bool → Detectors
uncased_run s c m point suspicious again =
    record {
      symbols = symbols.feed_run s.symbols m point;
      accents = accents.feed_run s.accents c.flags m;
      unprintable = unprintable.feed_run s.unprintable m;
      ranges = ranges.feed_run s.ranges c.range m suspicious again;
      doubled = s.doubled;
      words = s.words;
      stops = stops.feed_run s.stops c.flags m;
      archaic = archaic.feed_uncased s.archaic c.flags m;
    }

-- the built-in table's range of ASCII's printable characters
abbrev pub BASIC_LATIN : ℕ
BASIC_LATIN = 2

-- the flags of ASCII's lower-case letters
abbrev pub LOWER : ℕ
LOWER = ASCII + ASCII_ALPHABETIC + ASCII_GRAPHIC + LATIN + ALPHABETIC + CASE_VARIABLE + LOWERCASE + CHAR_ALPHABETIC

abbrev pub lower_class : ℕ → Class
lower_class p = record { point = p; flags = LOWER; range = BASIC_LATIN; base = p; lower = p }

abbrev pub LOWER_FIRST : ℕ
LOWER_FIRST = 0x61

abbrev pub LOWER_LAST : ℕ
LOWER_LAST = 0x7A

-- the space, and its flags
abbrev pub SPACE : ℕ
SPACE = 0x20

abbrev pub WHITE : ℕ
WHITE = WHITESPACE + SEPARATOR + ASCII

abbrev pub space_class : Class
space_class = record { point = SPACE; flags = WHITE; range = BASIC_LATIN; base = SPACE; lower = SPACE }
