-- What a ranking call answers at the host's boundary: ACCEPTED, 0 and how many matches there are, or the number and place of the refusal and 0. The lent
-- list after the call is base's `lent_after`: "matches are put into a lent list of match entries, at least one per language record; the rest stays"
-- (01, "Layers and rankings"), and a refusal "changes nothing lent". Not here: the matches and the causes (crate cd). Laws: proofs/Laws/Matches.
-- The merging call answers in the same form (`host_merged`).
-- Assumes nothing.
use Rattle.std.specs.Prelude.{ℕ, List, length, Result, ⊤}
use Rattle.base.specs.declared.Refusal.{Refusal}
use Rattle.base.specs.Counted.{count_unless, values}
use Rattle.cd_ranking.specs.declared.CoherenceMatch.{CoherenceMatch}
use Rattle.cd_list.specs.declared.HostRanking.{HostRanking}

unfoldable pub host_ranking : Result ⊤ Refusal → List CoherenceMatch → HostRanking
host_ranking c matches =
    record {
      number = (values (count_unless c (length matches))).number;
      place = (values (count_unless c (length matches))).place;
      count = (values (count_unless c (length matches))).count;
    }

-- of earlier rankings merged into one (02 [14])
unfoldable pub host_merged : Result ℕ Refusal → HostRanking
host_merged a = record { number = (values a).number; place = (values a).place; count = (values a).count }
