-- The built-in table as a function (01, "A built-in table classes the 592 code points U+0000 to U+024F"): the entry of each code point
-- below BUILTIN-END, read off the four lists of Words. Past them every field is 0, and nothing is said there.
-- Assumes nothing.
use Rattle.std.specs.Prelude.{ℕ, get_or}
use Rattle.class_builtin.specs.Words.{flag_words, range_numbers, bases, lowers}
use Rattle.class_builtin.specs.declared.Entry.{Entry}

unfoldable pub entry_at : ℕ → Entry
entry_at p =
    record {
      flags = get_or flag_words p 0;
      range = get_or range_numbers p 0;
      base = get_or bases p 0;
      lower = get_or lowers p 0;
    }
