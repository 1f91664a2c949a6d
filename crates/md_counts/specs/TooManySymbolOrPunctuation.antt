-- Symbols (01): "printable characters. (punctuation + 2 per symbol)/n, 0 if below 3/10. A character equal to the last printable one adds
-- only to n." The Rust's TooManySymbolOrPunctuationPlugin, where a COMMON_SAFE character too adds only to n, where PUNCTUATION goes before
-- SYMBOL, and where a NUMERIC symbol or an EMOTICON is no symbol. The laws stand in proofs/Laws/TooManySymbolOrPunctuation.
-- Assumes nothing.
use Rattle.std.specs.Prelude.{ℕ, ◌+◌, ◌*◌, Bool, cond, not, ◌&&◌, ltb, eqb}
use Rattle.base.specs.Flags.{has, UNPRINTABLE, COMMON_SAFE, PUNCTUATION, NUMERIC, SYMBOL, EMOTICON}
use Rattle.base.specs.Numbers.{bump}
use Rattle.classes.specs.declared.Class.{Class}
use Rattle.ratio.specs.declared.Fraction.{Fraction}
use Rattle.ratio.specs.declared.Counts.{Counts}
use Rattle.ratio.specs.Fraction.{counts_of, at_least}
use Rattle.md_counts.specs.declared.too_many_symbol_or_punctuation.TooManySymbolOrPunctuation.{TooManySymbolOrPunctuation}

abbrev pub start : TooManySymbolOrPunctuation
start = record { characters = 0; punctuation = 0; symbols = 0; last = 0 }

-- equal to the last printable character, which there is once one was counted
unfoldable pub repeated : TooManySymbolOrPunctuation → Class → Bool
repeated s c = ltb 0 s.characters && eqb c.point s.last

-- may add to more than n
unfoldable pub adds : TooManySymbolOrPunctuation → Class → Bool
adds s c = not (repeated s c) && not (has c.flags COMMON_SAFE)

unfoldable pub counted_symbol : ℕ → Bool
counted_symbol flags = not (has flags PUNCTUATION) && not (has flags NUMERIC) && has flags SYMBOL && not (has flags EMOTICON)

-- a printable character
unfoldable pub printable : TooManySymbolOrPunctuation → Class → TooManySymbolOrPunctuation
printable s c =
    record {
      characters = s.characters + 1;
      punctuation = s.punctuation + bump (adds s c && has c.flags PUNCTUATION);
      symbols = s.symbols + bump (adds s c && counted_symbol c.flags);
      last = c.point;
    }

unfoldable pub feed : TooManySymbolOrPunctuation → Class → TooManySymbolOrPunctuation
feed s c = cond (has c.flags UNPRINTABLE) s (printable s c)

-- a symbol is worth so many of punctuation
abbrev pub WORTH : ℕ
WORTH = 2

-- below this part of all the ratio is 0
abbrev pub LEAST_PART : ℕ
LEAST_PART = 3

abbrev pub LEAST_WHOLE : ℕ
LEAST_WHOLE = 10

-- "(punctuation + 2 per symbol)/n"
abbrev pub share : TooManySymbolOrPunctuation → Fraction
share s = record { num = s.punctuation + WORTH * s.symbols; den = s.characters }

-- "0 if below 3/10"
abbrev pub keeps : TooManySymbolOrPunctuation → Bool
keeps s = at_least LEAST_PART LEAST_WHOLE (share s)

unfoldable pub counts : TooManySymbolOrPunctuation → Counts
counts s = counts_of (share s) (keeps s)
