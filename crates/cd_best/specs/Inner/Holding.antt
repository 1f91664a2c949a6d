-- What holds of the records that have a match, and of their best scores (`Holds`); and of all matches of a layer (`Each`).
-- Assumes nothing.
use Rattle.std.specs.Prelude.{ℕ, ◌<◌, ◌≡◌, true, List, length, get_or, Float}
use Rattle.base.specs.Limits.{MOST_LANGUAGES}
use Rattle.cd_best.specs.declared.Standing.{Standing}
use Rattle.cd_best.specs.Inner.Standing.{kept_at, best_at, unread}

-- each kept record has P of itself and its best score
pub record Holds (P : ℕ → Float → Type 0) (s : Standing) : Type 0 where
  pub marks : length s.kept ≡ MOST_LANGUAGES
  pub scores : length s.best ≡ MOST_LANGUAGES
  pub each : (r : ℕ) → kept_at s r ≡ true → P r (best_at s r)

-- so many matches have P, and their records have places
abbrev pub Each : (ℕ → Float → Type 0) → List ℕ → List Float → Type 0
Each P ats scores = (i : ℕ) → i < length ats → (get_or ats i 0 < MOST_LANGUAGES) × P (get_or ats i 0) (get_or scores i unread)
