-- The search or the included numbers, by the definition's test.
-- Assumes nothing.
use Rattle.cd_matches.proofs.Laws.Matches.{match_search, match_given}
use Rattle.cd_matches.proofs.match_records.Goals as goal

pub returns-then-latin-included : goal.returns-then-latin-included
returns-then-latin-included c =
    rw (match_search _ _ _ _ (rw c.lone_zero-latin.ensures at c.if-latin-included.true), ← c.lone_zero-latin.ensures) c.alphabet_languages.ensures

pub returns : goal.returns
returns c =
    rw (match_given _ _ _ _ (rw c.lone_zero-latin.ensures at c.if-latin-included.false)) c.included_records.ensures
