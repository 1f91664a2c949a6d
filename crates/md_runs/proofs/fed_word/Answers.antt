-- Each way is a run that the definition reaches character by character, or one character. Assumes nothing.
use Rattle.std.proofs.Common.{sym, ◌∙◌, arith}
use Rattle.md_runs.proofs.Laws.Runs.{before_room, before_last, before_range, before_held, lent_step, advanced_one}
use Rattle.md_runs.proofs.fed_word.Goals as goal

pub runs_on-requires : goal.runs_on-requires
runs_on-requires c =
    let asked = c.requires in
    (asked.0.inside, asked.0.short, λ h. rw (asked.1 h) (before_held _ _ _ _ _ _ asked.0 h))

pub fed_uncased-requires : goal.fed_uncased-requires
fed_uncased-requires c =
    let run = c.runs_on.ensures in
    let right = c.wrong_stop.ensures in
    let asked = c.requires in
    let lent = lent_step _ _ _ _ _ _ asked.0 _ asked.1 _ _ run right c.if-runs_on-wrong_stop.true in
    (asked.0, lent, sym c.is_uncased.ensures ∙ c.if-is_uncased.true)

pub returns-then-is_uncased : goal.returns-then-is_uncased
returns-then-is_uncased c = c.fed_uncased.ensures

pub fed_cased-requires : goal.fed_cased-requires
fed_cased-requires c =
    let run = c.runs_on.ensures in
    let right = c.wrong_stop.ensures in
    let asked = c.requires in
    let lent = lent_step _ _ _ _ _ _ asked.0 _ asked.1 _ _ run right c.if-runs_on-wrong_stop.true in
    (asked.0, lent, sym c.is_cased.ensures ∙ c.if-is_cased.true)

pub returns-then-is_cased : goal.returns-then-is_cased
returns-then-is_cased c = c.fed_cased.ensures

pub fed-requires : goal.fed-requires
fed-requires c =
    let asked = c.requires.0 in
    (before_room _ _ _ _ _ _ asked, asked.tables.fits, before_last _ _ _ _ _ _ asked, before_range _ _ _ _ _ _ asked)

pub overflow_add-result : goal.overflow_add-result
overflow_add-result c =
    let asked = c.requires.0 in
    omega (arith, asked.inside, asked.short)

pub returns : goal.returns
returns c =
    let asked = c.requires.0 in
    advanced_one _ _ _ _ _ _ asked _ c.fed.ensures
