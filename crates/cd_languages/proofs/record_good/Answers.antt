-- The code is the conditions of the definition in their order; only the number of letters is held to its limit first.
-- Assumes nothing.
use mathlib.Core.Path.{sym}
use Rattle.cd_languages.proofs.Laws.Languages.{too_many_letters, few_letters}
use Rattle.cd_languages.proofs.record_good.Goals as goal

pub returns-then-n-gt-LANGUAGE_LETTERS : goal.returns-then-n-gt-LANGUAGE_LETTERS
returns-then-n-gt-LANGUAGE_LETTERS c = sym (too_many_letters _ _ (rw c.count_at-n.ensures at c.if-n-gt-LANGUAGE_LETTERS.true))

pub returns : goal.returns
returns c =
    let count = c.count_at-n.ensures in
    rw (count, c.number_at.ensures, c.marks_at.ensures, c.slots_good.ensures)
    (few_letters _ _ (rw count at c.if-n-gt-LANGUAGE_LETTERS.false))
