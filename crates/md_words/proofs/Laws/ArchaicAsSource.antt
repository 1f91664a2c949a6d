-- Archaic case keeps the last letter as its flags, 0 where there is none, and clears `buf` at a letter that has none before it, where plugins.rs, which
-- keeps an Option, leaves `buf` as it is. Here the state and the step are written as the source has them, with the Option, and the two agree
-- after every text (`archaic_as_source`): the same counts, run, ASCII mark and `buf`, whatever the flags of the characters are. `buf` is
-- false in every state without a last letter, so that to clear it and to leave it are the same.
-- Assumes nothing.
use Prim.Native.Nat.{ℕ, ◌+◌}
use mathlib.Core.Path.{◌≡◌, refl, sym, ◌∙◌}
use mathlib.Core.Bool.{Bool, true, false, cond, not, ◌&&◌}
use mathlib.Core.List.{List, [], ◌∷◌}
use native.Mathlib.Nat.{add-zero}
use lib.Dec.{leb, ltb}
use Rattle.base.specs.Flags.{has, ASCII, ASCII_DIGIT, ALPHABETIC, CASE_VARIABLE}
use Rattle.base.proofs.Laws.Tests.{by_bool}
use Rattle.classes.specs.declared.Class.{Class}
use Rattle.md_words.specs.declared.archaic_upper_lower.ArchaicUpperLower.{ArchaicUpperLower}
use Rattle.md_words.specs.ArchaicUpperLower.{LONGEST_RUN, start, separates, counted, separator, changes, letter, feed}
use Rattle.md_words.proofs.Laws.ArchaicUpperLower.{no_change}

-- `last_alpha_seen: Option<MessDetectorChar>`
pub data Seen : Type 0 where
  none : Seen
  some : Class → Seen

-- ArchaicUpperLowerPlugin
pub record Source : Type 0 where
  pub characters : ℕ
  pub since : ℕ
  pub run : ℕ
  pub total : ℕ
  pub ascii : Bool
  pub buf : Bool
  pub last : Seen

abbrev pub source_start : Source
source_start = record { characters = 0; since = 0; run = 0; total = 0; ascii = true; buf = false; last = none }

-- the first branch's test, and what it does
unfoldable pub source_separates : Source → Class → Bool
source_separates o c = not (has c.flags ALPHABETIC && has c.flags CASE_VARIABLE) && ltb 0 o.since

unfoldable pub source_counted : Source → Class → Bool
source_counted o c = leb o.since LONGEST_RUN && not (has c.flags ASCII_DIGIT) && not o.ascii

abbrev pub source_separator : Source → Class → Source
source_separator o c =
    record {
      characters = o.characters + 1;
      since = 0;
      run = 0;
      total = o.total + cond (source_counted o c) o.run 0;
      ascii = true;
      buf = false;
      last = none;
    }

-- `if let Some(tmp_last_alpha) = self.last_alpha_seen`: the run and `buf` after a letter; without a last one both stay
unfoldable pub run_after : Seen → ℕ → Bool → Class → ℕ
run_after none run buf c = run
run_after (some l) run buf c = run + cond (changes l.flags c.flags && buf) 2 0

unfoldable pub buf_after : Seen → Bool → Class → Bool
buf_after none buf c = buf
buf_after (some l) buf c = changes l.flags c.flags && not buf

abbrev pub source_letter : Source → Class → Source
source_letter o c =
    record {
      characters = o.characters + 1;
      since = o.since + 1;
      run = run_after o.last o.run o.buf c;
      total = o.total;
      ascii = o.ascii && has c.flags ASCII;
      buf = buf_after o.last o.buf c;
      last = some c;
    }

unfoldable pub source_feed : Source → Class → Source
source_feed o c = cond (source_separates o c) (source_separator o c) (source_letter o c)

-- flags 0 stand for none, and then `buf` is false
abbrev pub LastIs : Seen → ArchaicUpperLower → Type 0
LastIs none s = (s.last ≡ 0) × (s.buf ≡ false)
LastIs (some l) s = s.last ≡ l.flags

pub record Same (s : ArchaicUpperLower) (o : Source) : Type 0 where
  pub characters : s.characters ≡ o.characters
  pub since : s.since ≡ o.since
  pub run : s.run ≡ o.run
  pub total : s.total ≡ o.total
  pub ascii : s.ascii ≡ o.ascii
  pub buf : s.buf ≡ o.buf
  pub last : LastIs o.last s

module _ (s : ArchaicUpperLower) (c : Class) where
  run_alike : (seen : Seen) → LastIs seen s → s.run + cond (changes s.last c.flags && s.buf) 2 0 ≡ run_after seen s.run s.buf c
  unfolding run_after
  run_alike none h = rw (h.0, no_change c.flags) (simp add-zero)
  run_alike (some l) h = rw h

  buf_alike : (seen : Seen) → LastIs seen s → changes s.last c.flags && not s.buf ≡ buf_after seen s.buf c
  unfolding buf_after
  buf_alike none h = rw (h.0, no_change c.flags) (sym h.1)
  buf_alike (some l) h = rw h

module _ (s : ArchaicUpperLower) (o : Source) (w : Same s o) (c : Class) where
  separator_alike : Same (separator s c.flags) (source_separator o c)
  unfolding separator counted source_counted
  separator_alike =
      record {
        characters = rw w.characters;
        since = refl;
        run = refl;
        total = rw (w.total, w.since, w.ascii, w.run);
        ascii = refl;
        buf = refl;
        last = (refl, refl);
      }

  letter_alike : Same (letter s c.flags) (source_letter o c)
  unfolding letter
  letter_alike =
      record {
        characters = rw w.characters;
        since = rw w.since;
        run = run_alike s c o.last w.last ∙ rw (w.run, w.buf);
        total = w.total;
        ascii = rw w.ascii;
        buf = buf_alike s c o.last w.last ∙ rw w.buf;
        last = refl;
      }

  separates_alike : separates s c.flags ≡ source_separates o c
  unfolding separates source_separates
  separates_alike = rw w.since

  feed_alike : Same (feed s c) (source_feed o c)
  unfolding feed source_feed
  feed_alike =
      by_bool (source_separates o c)
      (λ e. rw (separates_alike ∙ e, e) separator_alike)
      (λ e. rw (separates_alike ∙ e, e) letter_alike)

-- a text's characters, one after the other
unfoldable pub fed_all : ArchaicUpperLower → List Class → ArchaicUpperLower
fed_all s [] = s
fed_all s (c ∷ cs) = fed_all (feed s c) cs

unfoldable pub source_all : Source → List Class → Source
source_all o [] = o
source_all o (c ∷ cs) = source_all (source_feed o c) cs

all_alike : (s : ArchaicUpperLower) (o : Source) → Same s o → (cs : List Class) → Same (fed_all s cs) (source_all o cs)
unfolding fed_all source_all
all_alike s o w [] = w
all_alike s o w (c ∷ cs) = all_alike (feed s c) (source_feed o c) (feed_alike s o w c) cs

pub archaic_as_source : (cs : List Class) → Same (fed_all start cs) (source_all source_start cs)
archaic_as_source cs =
    all_alike start source_start
    (record { characters = refl; since = refl; run = refl; total = refl; ascii = refl; buf = refl; last = (refl, refl) }) cs
