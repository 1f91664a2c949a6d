-- Words of inner contracts, beside Jaro: `Counted`. No public promise rests on them.
-- Assumes nothing.
use Rattle.std.specs.Prelude.{ℕ, ◌*◌, ◌≤◌, ◌≡◌, List, length}
use Rattle.cd_jaro_meaning.specs.Jaro.{matches, transpositions}

-- m and t, and what a caller needs of their size
pub record Counted (layer language : List ℕ) (m t : ℕ) : Type 0 where
  pub m_is : m ≡ matches layer language
  pub t_is : t ≡ transpositions layer language
  pub few : m ≤ length language
  pub half : t * 2 ≤ m
