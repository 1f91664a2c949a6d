-- Words of inner contracts: a page that was checked (`Good`). No public promise rests on them.
-- Assumes nothing.
use Rattle.std.specs.Prelude.{◌≡◌, List, ℕ, length}
use Rattle.page_meaning.specs.Page.{PAGE_ENTRIES, first_bad}

pub record Good (page : List ℕ) : Type 0 where
  pub size : length page ≡ PAGE_ENTRIES
  pub none_bad : first_bad page ≡ PAGE_ENTRIES
