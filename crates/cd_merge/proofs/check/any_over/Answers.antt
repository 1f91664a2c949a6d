-- What the call says of some length over 63, and what the definition says. Assumes nothing.
use Rattle.std.proofs.Common.{ℕ, ◌<◌, ◌≤◌, Bool, true, false, ltb, List, length, Decides, MatchBool, refl, arith, rules, tests}
use Rattle.std.specs.List.{HoldsAt, AllWithin}
use Rattle.std.proofs.lemmas.Iterator.{cases_from_any, YieldsList-from_slice}
use Rattle.std.proofs.lemmas.Bool.{false≢true}
use Rattle.std.proofs.lemmas.Bool.Decides.{same_from_decides, Decides-by_or, Decides-ltb}
use Rattle.cd_merge_meaning.specs.Answer.{LONGEST_RANKING, over}
use Rattle.cd_merge.proofs.check.any_over.Goals as goal

abbrev SomeOver : List ℕ → Type 0
SomeOver l = (k : ℕ) × (k < length l) × HoldsAt (λ n. LONGEST_RANKING < n) l k

by_cases : (r : Bool) (l : List ℕ) → MatchBool r (SomeOver l) (AllWithin (λ n. n ≤ LONGEST_RANKING) l 0 (length l)) → Decides r (SomeOver l)
by_cases true l h = (λ _. h, λ _. refl)
by_cases false l h = (λ e. absurd (false≢true e), λ w. absurd (omega (arith, h w.0 0 (omega arith) w.1, w.2 0)))

pub returns : goal.returns
unfolding over
returns c =
    let l = c.args.lengths.now in
    let called = cases_from_any _ _ _ (λ n. LONGEST_RANKING < n) (λ n. n ≤ LONGEST_RANKING) c.any.ensures.ran (YieldsList-from_slice l cc)
    (λ x q k. search (rules, tests)) (λ x q k. search (rules, tests)) in
    let meant = Decides-by_or (ltb LONGEST_RANKING) (λ n. LONGEST_RANKING < n) over (Decides-ltb LONGEST_RANKING) refl (λ _ _. refl) l in
    same_from_decides _ (over l) (by_cases _ l called) meant
