-- Words of inner contracts: a list whose lengths fit (`Fit`), one whose scores were checked too (`Good`), and what
-- its merging leaves (`room_into`). No public promise rests on them.
-- Assumes nothing.
use Rattle.std.specs.Prelude.{ℕ, ◌≤◌, ◌<◌, ◌≡◌, true, false, List, length}
use Rattle.base.specs.Counted.{lent_after}
use Rattle.cd_merge_meaning.specs.Entries.{entries, score_at}
use Rattle.cd_merge_meaning.specs.Merge.{merged_words}
use Rattle.cd_merge_meaning.specs.Answer.{is_score, unfit, no_room}

-- entries of 64 rankings of 63
abbrev pub MOST_ENTRIES : ℕ
MOST_ENTRIES = 4032

abbrev pub Fit : List ℕ → List ℕ → Type 0
Fit list lengths = unfit list lengths ≡ false

pub record Good (list : List ℕ) : Type 0 where
  pub few : entries list ≤ MOST_ENTRIES
  pub scored : (i : ℕ) → i < entries list → is_score (score_at list i) ≡ true

abbrev pub room_into : List ℕ → List ℕ → List ℕ
room_into list out = lent_after (no_room list (length out)) (merged_words list) out
