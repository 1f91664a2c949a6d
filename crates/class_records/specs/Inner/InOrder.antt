-- Words of inner contracts, beside InOrder: `span_after`. No public promise rests on them.
-- Assumes nothing.
use Rattle.std.specs.Prelude.{ℕ, Bool, ◌&&◌, ◌||◌, leb, ltb}
use Rattle.base.specs.Limits.{SURROGATE_FIRST, SURROGATE_LAST}
use Rattle.class_records.specs.declared.Record.{Record}

-- past `end`, first to last, no surrogate inside
unfoldable pub span_after : ℕ → Record → Bool
span_after end r =
    ltb end r.first && leb r.first r.last
    && (ltb r.last SURROGATE_FIRST || ltb SURROGATE_LAST r.first)
