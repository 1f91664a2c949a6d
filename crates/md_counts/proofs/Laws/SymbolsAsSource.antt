-- Symbols keep the last printable character as a code point, which is there once a character was counted; plugins.rs keeps it as an Option. Here the
-- state and the step are written as the source has them, with the Option, and the two agree after every text (`symbols_as_source`): the same
-- counts, and a last character in the one exactly where there is one in the other.
-- Assumes nothing.
use Prim.Native.Nat.{ℕ, ◌+◌, ◌<◌}
use mathlib.Core.Path.{◌≡◌, refl}
use mathlib.Core.Bool.{Bool, true, cond, not, ◌&&◌}
use mathlib.Core.List.{List, [], ◌∷◌}
use native.Mathlib.Omega.{arith}
use lib.Dec.{eqb}
use borrow.Author.Tests.{lt-ltb}
use Rattle.base.specs.Flags.{has, UNPRINTABLE, COMMON_SAFE, PUNCTUATION}
use Rattle.base.specs.Numbers.{bump}
use Rattle.base.proofs.Laws.Tests.{by_bool}
use Rattle.classes.specs.declared.Class.{Class}
use Rattle.md_counts.specs.declared.too_many_symbol_or_punctuation.TooManySymbolOrPunctuation.{TooManySymbolOrPunctuation}
use Rattle.md_counts.specs.TooManySymbolOrPunctuation.{start, repeated, adds, counted_symbol, printable, feed}

-- `last_printable_char: Option<MessDetectorChar>`
pub data Seen : Type 0 where
  none : Seen
  some : Class → Seen

-- TooManySymbolOrPunctuationPlugin; a symbol is counted as 1 and not as 2
pub record Source : Type 0 where
  pub characters : ℕ
  pub punctuation : ℕ
  pub symbols : ℕ
  pub last : Seen

abbrev pub source_start : Source
source_start = record { characters = 0; punctuation = 0; symbols = 0; last = none }

-- `self.last_printable_char.is_none() || *character != self.last_printable_char.unwrap()`: characters are compared by their code points
unfoldable pub differs : Seen → Class → Bool
differs none c = true
differs (some l) c = not (eqb c.point l.point)

-- `.. && !character.is(COMMON_SAFE)`
abbrev pub source_adds : Source → Class → Bool
source_adds o c = differs o.last c && not (has c.flags COMMON_SAFE)

-- one character, where it is eligible
unfoldable pub source_feed : Source → Class → Source
source_feed o c =
    cond (has c.flags UNPRINTABLE) o
    (record {
      characters = o.characters + 1;
      punctuation = o.punctuation + bump (source_adds o c && has c.flags PUNCTUATION);
      symbols = o.symbols + bump (source_adds o c && counted_symbol c.flags);
      last = some c;
    })

-- there is a last character, and it is this one
abbrev pub LastIs : Seen → TooManySymbolOrPunctuation → Type 0
LastIs none s = s.characters ≡ 0
LastIs (some l) s = (0 < s.characters) × (s.last ≡ l.point)

pub record Same (s : TooManySymbolOrPunctuation) (o : Source) : Type 0 where
  pub characters : s.characters ≡ o.characters
  pub punctuation : s.punctuation ≡ o.punctuation
  pub symbols : s.symbols ≡ o.symbols
  pub last : LastIs o.last s

differs_alike : (s : TooManySymbolOrPunctuation) (seen : Seen) (c : Class) → LastIs seen s → not (repeated s c) ≡ differs seen c
unfolding repeated differs
differs_alike s none c h = rw h
differs_alike s (some l) c h = rw (lt-ltb 0 s.characters h.0, h.1)

module _ (s : TooManySymbolOrPunctuation) (o : Source) (w : Same s o) (c : Class) where
  printable_alike : Same (printable s c)
      (record {
        characters = o.characters + 1;
        punctuation = o.punctuation + bump (source_adds o c && has c.flags PUNCTUATION);
        symbols = o.symbols + bump (source_adds o c && counted_symbol c.flags);
        last = some c;
      })
  unfolding printable adds repeated differs
  printable_alike =
      let d = differs_alike s o.last c w.last in
      record {
        characters = rw w.characters;
        punctuation = rw (w.punctuation, d);
        symbols = rw (w.symbols, d);
        last = (omega arith, refl);
      }

  feed_alike : Same (feed s c) (source_feed o c)
  unfolding feed source_feed
  feed_alike = by_bool (has c.flags UNPRINTABLE) (λ e. rw e w) (λ e. rw e printable_alike)

-- a text's characters, one after the other
unfoldable pub fed_all : TooManySymbolOrPunctuation → List Class → TooManySymbolOrPunctuation
fed_all s [] = s
fed_all s (c ∷ cs) = fed_all (feed s c) cs

unfoldable pub source_all : Source → List Class → Source
source_all o [] = o
source_all o (c ∷ cs) = source_all (source_feed o c) cs

all_alike : (s : TooManySymbolOrPunctuation) (o : Source) → Same s o → (cs : List Class) → Same (fed_all s cs) (source_all o cs)
unfolding fed_all source_all
all_alike s o w [] = w
all_alike s o w (c ∷ cs) = all_alike (feed s c) (source_feed o c) (feed_alike s o w c) cs

pub symbols_as_source : (cs : List Class) → Same (fed_all start cs) (source_all source_start cs)
symbols_as_source cs = all_alike start source_start (record { characters = refl; punctuation = refl; symbols = refl; last = refl }) cs
