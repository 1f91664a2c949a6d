-- What is answered of a ranking by value, and what is put of it into a lent list, is what 01 says: of any cause (`answer_is`, `put_after`), of a call with a
-- threshold (`ratio_answer`, `ratio_after`), and the same of one without (`default_answer`, `default_after`).
-- Assumes nothing.
use Rattle.std.specs.Prelude.{Result, Ok, Err, ⊤}
use Prim.Native.Nat.{ℕ}
use mathlib.Core.Path.{◌≡◌, refl, ap, ◌∙◌}
use mathlib.Core.List.{List}
use lib.Ieee.{Float}
use lib.ListN.{length}
use Rattle.base.specs.declared.Refusal.{Refusal}
use Rattle.base.specs.Put.{put}
use Rattle.base.specs.Counted.{count_unless, values, lent_after}
use Rattle.base.specs.Refusals.{number_of}
use Rattle.base.proofs.Laws.Put.{put_nothing}
use Rattle.cd_ranking.specs.declared.CoherenceMatch.{CoherenceMatch}
use Rattle.cd_ranking.specs.Ranking.{by_value}
use Rattle.cd_list.specs.declared.HostRanking.{HostRanking}
use Rattle.cd_list.specs.Inner.Lent.{matches_in, answer_of}
use Rattle.cd_list.proofs.Laws.Lent.{matches_are, matches_none}
use Rattle.cd_meaning.specs.Causes.{causes, causes_default}
use Rattle.cd_meaning.proofs.Laws.Causes.{default_causes}
use Rattle.cd_meaning.specs.Coherence.{DEFAULT_THRESHOLD, matches_of, answered, coherence_ratio}
use Rattle.cd_meaning.proofs.Laws.Coherence.{default_finite}
use Rattle.host.specs.Matches.{host_ranking}

pub answer_is : (c : Result ⊤ Refusal) (matches : List CoherenceMatch) → answer_of (answered c matches) ≡ host_ranking c matches
unfolding answered by_value answer_of host_ranking count_unless values
answer_is (Ok u) matches = refl
answer_is (Err r) matches = refl

pub put_after : (c : Result ⊤ Refusal) (matches out : List CoherenceMatch) → put out 0 (matches_in (answered c matches)) ≡ lent_after c matches out
unfolding answered lent_after
put_after (Ok u) matches out = ap (put out 0) (matches_are matches)
put_after (Err r) matches out = ap (put out 0) (matches_none r) ∙ put_nothing out 0

module _ (text : List ℕ) (threshold : Float) (small : ℕ) (classes pairs t included : List ℕ) (work : ℕ) (out : List CoherenceMatch) where
  pub ratio_answer : answer_of (coherence_ratio text threshold small classes pairs t included work (length out))
      ≡ host_ranking (causes text threshold classes pairs t included work (length out)) (matches_of text threshold small classes pairs t included)
  unfolding coherence_ratio
  ratio_answer = answer_is (causes text threshold classes pairs t included work (length out)) (matches_of text threshold small classes pairs t included)

  pub ratio_after : put out 0 (matches_in (coherence_ratio text threshold small classes pairs t included work (length out)))
      ≡ lent_after (causes text threshold classes pairs t included work (length out)) (matches_of text threshold small classes pairs t included) out
  unfolding coherence_ratio
  ratio_after = put_after (causes text threshold classes pairs t included work (length out)) (matches_of text threshold small classes pairs t included) out

module _ (text : List ℕ) (small : ℕ) (classes pairs t included : List ℕ) (work : ℕ) (out : List CoherenceMatch) where
  abbrev found : List CoherenceMatch
  found = matches_of text DEFAULT_THRESHOLD small classes pairs t included

  same : causes text DEFAULT_THRESHOLD classes pairs t included work (length out) ≡ causes_default text classes pairs t included work (length out)
  same = default_causes text classes pairs t included work (length out) DEFAULT_THRESHOLD default_finite

  pub default_answer : host_ranking (causes text DEFAULT_THRESHOLD classes pairs t included work (length out)) found
      ≡ host_ranking (causes_default text classes pairs t included work (length out)) found
  default_answer = ap (λ (c : Result ⊤ Refusal). host_ranking c found) same

  pub default_after : lent_after (causes text DEFAULT_THRESHOLD classes pairs t included work (length out)) found out
      ≡ lent_after (causes_default text classes pairs t included work (length out)) found out
  default_after = ap (λ (c : Result ⊤ Refusal). lent_after c found out) same
