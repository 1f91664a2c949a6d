-- The kept matches as the code holds them while it reads (`Standing`): how many were sufficient, and of each first record whether a match of it was
-- kept and the best score of those. That this is what the kept matches come to: proofs/Laws/Tallies.
-- Assumes nothing.
use Rattle.std.specs.Prelude.{ℕ, ◌+◌, Bool, true, false, cond, List, [], ◌∷◌, get_or, set, replicate, leb, Float}
use Rattle.std.specs.Float.{nan, binary32}
use Rattle.std.specs.Float.Ieee.{of_bits, lt}
use Rattle.base.specs.Limits.{MOST_LANGUAGES}
use Rattle.cd_best.specs.declared.Standing.{Standing}
use Rattle.cd_best.specs.Kept.{ENOUGH, is_sufficient}
use Rattle.cd_best.specs.Best.{higher}

unfoldable pub start : Standing
start = record { sufficient = 0; kept = replicate MOST_LANGUAGES false; best = replicate MOST_LANGUAGES (of_bits binary32 0) }

-- what a read past the end of the scores gives; there is none
abbrev pub unread : Float
unread = nan

-- a match of the record r was kept, and the best score of those
abbrev pub kept_at : Standing → ℕ → Bool
kept_at s r = get_or s.kept r false

abbrev pub best_at : Standing → ℕ → Float
best_at s r = get_or s.best r unread

-- the higher of a score and the one kept before, if one was
abbrev pub better : Bool → Float → Float → Float
better was old new = cond was (higher old new) new

-- a match of the language with the first record `at` is kept
unfoldable pub keep : Standing → ℕ → Float → Standing
keep s at score =
    record {
      sufficient = s.sufficient + is_sufficient score;
      kept = set s.kept at true;
      best = set s.best at (better (kept_at s at) (best_at s at) score);
    }

-- the matches of one layer: a score below the threshold is skipped; a kept match ends the layer once there are three sufficient ones
unfoldable pub walk : Float → Standing → List ℕ → List Float → Standing
walk threshold s [] scores = s
walk threshold s (at ∷ ats) [] = s
walk threshold s (at ∷ ats) (score ∷ scores) =
    cond (lt score threshold) (walk threshold s ats scores)
    (cond (leb ENOUGH (keep s at score).sufficient) (keep s at score) (walk threshold (keep s at score) ats scores))

-- bounds of the count of sufficient matches: before a layer, and before a match
abbrev pub MOST_BEFORE : ℕ
MOST_BEFORE = 65536

abbrev pub MOST_SUFFICIENT : ℕ
MOST_SUFFICIENT = 65600
