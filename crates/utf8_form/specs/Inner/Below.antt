-- Words of inner contracts: a list of ASCII code points (`AllAscii`). No public promise rests on them. Assumes nothing.
use Rattle.std.specs.Prelude.{ℕ, ◌<◌, List, length, get_or}

abbrev pub AllAscii : List ℕ → Type 0
AllAscii l = (j : ℕ) → j < length l → get_or l j 0 < 0x80
