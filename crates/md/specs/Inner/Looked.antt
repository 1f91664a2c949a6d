-- Words of inner contracts: what a lookup in the scan has found. No public promise rests on them.
-- Assumes nothing.
use Rattle.std.specs.Prelude.{ℕ, ◌≡◌, List}
use Rattle.md_meaning.specs.Text.{char_at}
use Rattle.md_meaning.specs.Scan.{class_at}
use Rattle.md_runs.specs.Inner.Runs.{HeldAt}
use Rattle.md.specs.declared.scan.Looked.{Looked}

-- what the lookup finds for the character at i, and the record that it finds it in
pub record LookedAt (classes text : List ℕ) (i : ℕ) (r : Looked) : Type 0 where
  pub found : r.found ≡ class_at classes text i
  pub held : HeldAt classes (char_at text i) r.held
