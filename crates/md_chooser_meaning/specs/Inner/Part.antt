-- Words of inner contracts, beside Choose: `PartLength`. No public promise rests on them.
-- Assumes nothing.
use Rattle.std.specs.Prelude.{ℕ, ◌≤◌, ◌≡◌, List, length, take, Result}
use Rattle.md_chooser_meaning.specs.declared.Side.{Side}
use Rattle.md_chooser_meaning.specs.declared.Unjudged.{Unjudged}
use Rattle.md_chooser_meaning.specs.Choose.{part_of, taken_from}

-- n code points of the text that the verdict names are what is handed back
pub record PartLength (judged : Result Side Unjudged) (first second : List ℕ) (n : ℕ) : Type 0 where
  pub within : n ≤ length (taken_from judged first second)
  pub is : take n (taken_from judged first second) ≡ part_of judged first second
