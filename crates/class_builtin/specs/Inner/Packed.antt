-- How a word of the built-in table holds an entry: the flags in the 25 lowest bits, the range in the next 7, the base in the next 16, and the
-- lower-case letter in the 16 highest. It is a form of the code's; what the table says is in Words and Table.
-- Assumes nothing.
use Rattle.std.specs.Prelude.{ℕ, ◌/◌, ◌%◌}
use Rattle.base.specs.Flags.{FLAGS_END}
use Rattle.class_builtin.specs.declared.Entry.{Entry}

unfoldable pub unpack : ℕ → Entry
unpack w =
    record {
      flags = w % FLAGS_END;
      range = w / FLAGS_END % 128;
      base = w / 4294967296 % 65536;
      lower = w / 281474976710656;
    }
