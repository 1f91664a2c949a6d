-- Words of inner contracts, beside ArchaicUpperLower: `Room`, and what a run of characters with the same flags comes to. No public promise rests on them.
-- Assumes nothing.
use Rattle.std.specs.Prelude.{ℕ, ◌+◌, ◌%◌, ◌≤◌, Bool, false, cond, not, ◌&&◌, ◌||◌, eqb, ltb}
use Rattle.base.specs.Flags.{has, ASCII}
use Rattle.base.specs.Numbers.{bump}
use Rattle.ratio.specs.Inner.Fraction.{MOST_NUM}
use Rattle.md_words.specs.declared.archaic_upper_lower.ArchaicUpperLower.{ArchaicUpperLower}
use Rattle.md_words.specs.ArchaicUpperLower.{changes, counted}

-- room for one character more in each count
pub record Room (s : ArchaicUpperLower) : Type 0 where
  pub characters : s.characters ≤ MOST_NUM
  pub since : s.since ≤ MOST_NUM
  pub run : s.run ≤ MOST_NUM
  pub total : s.total ≤ MOST_NUM

-- m letters with case, at least one: only at the first can the case change
unfoldable pub feed_cased : ArchaicUpperLower → ℕ → ℕ → ArchaicUpperLower
feed_cased s f m =
    record {
      characters = s.characters + m;
      since = s.since + m;
      run = s.run + cond (changes s.last f && s.buf) 2 0;
      total = s.total;
      last = f;
      ascii = s.ascii && has f ASCII;
      buf = changes s.last f && not s.buf && eqb m 1;
    }

-- the runs counted once a separator has come
unfoldable pub closed_total : ArchaicUpperLower → ℕ → ℕ
closed_total s f = s.total + cond (counted s f) s.run 0

-- m characters that are no letters with case: each is a letter seen or a separator, in turn
unfoldable pub in_turn : ArchaicUpperLower → ℕ → ℕ → ℕ → ArchaicUpperLower
in_turn s f since m =
    record {
      characters = s.characters + m;
      since = since;
      run = 0;
      total = closed_total s f;
      last = cond (eqb since 0) 0 f;
      ascii = eqb since 0 || has f ASCII;
      buf = false;
    }

-- whether the last of m such characters, at least one, is a letter seen: 1 where it is, else 0. The first is one where nothing was seen before it
unfoldable pub seen_last : ArchaicUpperLower → ℕ → ℕ
seen_last s m = (m + bump (ltb 0 s.since)) % 2

abbrev pub feed_uncased : ArchaicUpperLower → ℕ → ℕ → ArchaicUpperLower
feed_uncased s f m = in_turn s f (seen_last s m) m
