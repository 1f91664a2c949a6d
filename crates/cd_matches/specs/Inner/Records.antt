-- Words of inner contracts, beside Records: `Records`. No public promise rests on them.
-- Assumes nothing.
use Rattle.std.specs.Prelude.{ℕ, ◌<◌, List, length, get_or}
use Rattle.cd_languages.specs.Languages.{languages}

abbrev pub Records : List ℕ → List ℕ → Type 0
Records t records = (i : ℕ) → i < length records → get_or records i 0 < languages t
