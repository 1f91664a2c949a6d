-- No refusal has the number of acceptance (`refusal_numbered`): so a ranking that is told with that number has none of 01's causes (`told_faultless`, and of
-- the call without a threshold `told_faultless_default`), and a count that is told with it was counted (`told_counted`).
-- Assumes nothing.
use Rattle.std.specs.Prelude.{Result, Ok, Err, ⊤}
use Prim.Native.Nat.{ℕ}
use mathlib.Core.Path.{◌≡◌, refl, ◌∙◌}
use mathlib.Core.List.{List}
use native.Mathlib.Omega.{arith}
use lib.Ieee.{Float}
use Rattle.base.specs.declared.Refusal.{Refusal}
use Rattle.base.specs.declared.refusals.Cause.{Cause}
use Rattle.base.specs.declared.refusals.Cause.TheVariants.{TooLong, IllFormed, NoRoom, NotFinite, BadClasses, Unclassed, BadPairs, BadLanguages, BadIncluded}
use Rattle.base.specs.declared.refusals.Cause.TheVariants.{BadPage, NotOnPage, NotScalar, LineFull, LineShort, BadRing, RingFull, ManyLines, BadLengths, BadState}
use Rattle.base.specs.Counted.{count_unless, values}
use Rattle.base.specs.Refusals.{ACCEPTED, number_of}
use Rattle.cd_ranking.specs.declared.CoherenceMatch.{CoherenceMatch}
use Rattle.cd_meaning.specs.Causes.{causes, causes_default}
use Rattle.cd_meaning.specs.Coherence.{DEFAULT_THRESHOLD}
use Rattle.cd_meaning.proofs.Laws.Causes.{default_causes}
use Rattle.cd_meaning.proofs.Laws.Coherence.{default_finite}
use Rattle.cd_meaning.proofs.Laws.Accepted.{Faultless, free_faultless}
use Rattle.host.specs.Host.{host_counted}
use Rattle.host.specs.Matches.{host_ranking}

pub refusal_numbered : (k : Cause) → number_of k ≡ ACCEPTED → ⊥
unfolding number_of
refusal_numbered TooLong e = omega arith
refusal_numbered IllFormed e = omega arith
refusal_numbered NoRoom e = omega arith
refusal_numbered NotFinite e = omega arith
refusal_numbered BadClasses e = omega arith
refusal_numbered Unclassed e = omega arith
refusal_numbered BadPairs e = omega arith
refusal_numbered BadLanguages e = omega arith
refusal_numbered BadIncluded e = omega arith
refusal_numbered BadPage e = omega arith
refusal_numbered NotOnPage e = omega arith
refusal_numbered NotScalar e = omega arith
refusal_numbered LineFull e = omega arith
refusal_numbered LineShort e = omega arith
refusal_numbered BadRing e = omega arith
refusal_numbered RingFull e = omega arith
refusal_numbered ManyLines e = omega arith
refusal_numbered BadLengths e = omega arith
refusal_numbered BadState e = omega arith

pub told_counted : (a : Result ℕ Refusal) → (host_counted a).number ≡ ACCEPTED → a ≡ Ok (host_counted a).count
unfolding host_counted values
told_counted (Ok n) e = refl
told_counted (Err r) e = absurd (refusal_numbered r.cause e)

told_allowed : (c : Result ⊤ Refusal) (matches : List CoherenceMatch) → (host_ranking c matches).number ≡ ACCEPTED → c ≡ Ok tt
unfolding host_ranking count_unless values
told_allowed (Ok u) matches e = refl
told_allowed (Err r) matches e = absurd (refusal_numbered r.cause e)

module _ (text : List ℕ) (threshold : Float) (classes pairs t included : List ℕ) (work room : ℕ) (matches : List CoherenceMatch) where
  pub told_faultless : (host_ranking (causes text threshold classes pairs t included work room) matches).number ≡ ACCEPTED
      → Faultless text threshold classes pairs t included work room
  told_faultless e = free_faultless text threshold classes pairs t included work room (told_allowed _ matches e)

module _ (text classes pairs t included : List ℕ) (work room : ℕ) (matches : List CoherenceMatch) where
  pub told_faultless_default : (host_ranking (causes_default text classes pairs t included work room) matches).number ≡ ACCEPTED
      → Faultless text DEFAULT_THRESHOLD classes pairs t included work room
  told_faultless_default e =
      free_faultless text DEFAULT_THRESHOLD classes pairs t included work room
      (default_causes text classes pairs t included work room DEFAULT_THRESHOLD default_finite ∙ told_allowed _ matches e)
