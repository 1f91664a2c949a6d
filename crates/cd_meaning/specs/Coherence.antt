-- coherence_ratio, for every input (01, "Layers and rankings"; cd.rs): the ranking of the text's kept matches, or the refusal. And what becomes of the
-- lent work area. The laws stand in proofs/Laws/Coherence.
-- Assumes nothing.
use Rattle.std.specs.Prelude.{ℕ, ◌*◌, List, Float, length, replicate, Result, Ok, Err, ⊤}
use Rattle.std.specs.Float.Ieee.{of_bits}
use Rattle.std.specs.Float.{binary32}
use Rattle.base.specs.declared.Refusal.{Refusal}
use Rattle.base.specs.Limits.{WORK_PER_POINT}
use Rattle.base.specs.Put.{put}
use Rattle.cd_ranking.specs.declared.CoherenceMatch.{CoherenceMatch}
use Rattle.cd_ranking.specs.declared.Ranking.{Ranking}
use Rattle.cd_ranking.specs.Ranking.{ranking_of, by_value}
use Rattle.cd_meaning.specs.Causes.{causes, causes_default}
use Rattle.cd_meaning.specs.KeptMatches.{kept_of}

-- "f32 0.1 by default"
abbrev pub DEFAULT_THRESHOLD : Float
DEFAULT_THRESHOLD = of_bits binary32 0x3DCCCCCD

-- the matches of a text that is not refused, the best first
unfoldable pub matches_of : (text : List ℕ) (threshold : Float) (small : ℕ) (classes pairs languages included : List ℕ) → List CoherenceMatch
matches_of text threshold small classes pairs languages included = ranking_of languages (kept_of text threshold small classes pairs languages included)

-- the answer: the matches by value, or the refusal
unfoldable pub answered : Result ⊤ Refusal → List CoherenceMatch → Result Ranking Refusal
answered (Ok u) l = Ok (by_value l)
answered (Err r) l = Err r

-- `work` is how many words of work are lent, `room` how many match entries
unfoldable pub coherence_ratio : (text : List ℕ) (threshold : Float) (small : ℕ) (classes pairs languages included : List ℕ) (work room : ℕ) → Result Ranking Refusal
coherence_ratio text threshold small classes pairs languages included work room =
    answered (causes text threshold classes pairs languages included work room) (matches_of text threshold small classes pairs languages included)

-- the same without a threshold
unfoldable pub coherence_ratio_default : (text : List ℕ) (small : ℕ) (classes pairs languages included : List ℕ) (work room : ℕ) → Result Ranking Refusal
coherence_ratio_default text small classes pairs languages included work room =
    answered (causes_default text classes pairs languages included work room) (matches_of text DEFAULT_THRESHOLD small classes pairs languages included)

-- "A work area .. is lent; after acceptance those are zero and any beyond them stay" (01); it "becomes 8 u32 per code point" (02 [4])
unfoldable pub cleared : List ℕ → List ℕ → List ℕ
cleared text work = put work 0 (replicate (WORK_PER_POINT * length text) 0)

-- a refusal "changes nothing lent"
unfoldable pub work_after : Result ⊤ Refusal → List ℕ → List ℕ → List ℕ
work_after (Ok u) text work = cleared text work
work_after (Err r) text work = work
