-- A ranking by value as the list of its matches (`matches_of`), which "are put into a lent list of match entries" (01, Layers and rankings); what is put
-- of an answer, of a refusal nothing (`matches_in`); and what the call answers (`answer_of`). Not here: the ranking (crate cd_ranking). Laws:
-- proofs/Laws/Lent.
-- Assumes nothing.
use Rattle.std.specs.Prelude.{ℕ, zero, suc, List, [], ◌∷◌, get_or, Result, Ok, Err}
use Rattle.std.specs.Float.{nan}
use Rattle.base.specs.declared.Refusal.{Refusal}
use Rattle.base.specs.Refusals.{ACCEPTED, number_of}
use Rattle.cd_ranking.specs.declared.CoherenceMatch.{CoherenceMatch}
use Rattle.cd_ranking.specs.declared.Ranking.{Ranking}
use Rattle.cd_list.specs.declared.HostRanking.{HostRanking}

-- the match at place i
abbrev pub entry_of : Ranking → ℕ → CoherenceMatch
entry_of r i = record { language = get_or r.languages i 0; score = get_or r.scores i nan }

-- n of them, from place i on
unfoldable pub entries_from : Ranking → ℕ → ℕ → List CoherenceMatch
entries_from r i zero = []
entries_from r i (suc n) = entry_of r i ∷ entries_from r (suc i) n

abbrev pub matches_of : Ranking → List CoherenceMatch
matches_of r = entries_from r 0 r.count

-- "Any refusal .. changes nothing lent"
unfoldable pub matches_in : Result Ranking Refusal → List CoherenceMatch
matches_in (Ok r) = matches_of r
matches_in (Err r) = []

-- "Any refusal gives .. counts of 0"
unfoldable pub answer_of : Result Ranking Refusal → HostRanking
answer_of (Ok r) = record { number = ACCEPTED; place = 0; count = r.count }
answer_of (Err r) = record { number = number_of r.cause; place = r.place; count = 0 }
