-- Words of inner contracts: the marks of the check of a page. No public promise rests on them.
-- Assumes nothing.
use Rattle.std.specs.Prelude.{ℕ}

abbrev pub MARKS : ℕ
MARKS = 2048
