-- Words of inner contracts, beside Halving: `ends_from`, `ending`. No public promise rests on them.
-- Assumes nothing.
use Rattle.std.specs.Prelude.{ℕ, List, Bool, leb}
use Rattle.base.specs.First.{first}
use Rattle.class_records.specs.Records.{records, record_at}

-- the record i ends at p or past it, and the first that does
abbrev pub ends_from : List ℕ → ℕ → ℕ → Bool
ends_from t p i = leb p (record_at t i).last

unfoldable pub ending : List ℕ → ℕ → ℕ
ending t p = first (ends_from t p) (records t)
