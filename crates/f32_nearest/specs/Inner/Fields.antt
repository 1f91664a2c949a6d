-- Words of inner contracts, beside Fields: `DROPPED`, `SETTLED_END`. No public promise rests on them.
-- Assumes nothing.
use Rattle.std.specs.Prelude.{ℕ}

-- what the digits that are dropped count to: 2 ^ (52 - 23)
abbrev pub DROPPED : ℕ
DROPPED = 0x20000000

-- digits that leave room for one more: what an f64's bits are below, once 29 are dropped, is 2 ^ 35
abbrev pub SETTLED_END : ℕ
SETTLED_END = 0x800000000
