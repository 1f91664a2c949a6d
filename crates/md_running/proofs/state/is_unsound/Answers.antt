-- Each test returns what it is in the definition, those before it having failed. Assumes nothing.
use mathlib.Core.Path.{sym, ◌∙◌}
use Rattle.md_running_meaning.proofs.Laws.State.{not_finite_lem, over_long, over_full, over_range, by_counts}
use Rattle.md_running.proofs.state.is_unsound.Goals as goal

pub returns-then-not-is_finite : goal.returns-then-not-is_finite
returns-then-not-is_finite c = not_finite_lem _ (sym c.is_finite.ensures ∙ c.if-not-is_finite.true)

pub returns-then-s-gt-LONGEST_TEXT : goal.returns-then-s-gt-LONGEST_TEXT
returns-then-s-gt-LONGEST_TEXT c =
    over_long _ (sym c.is_finite.ensures ∙ c.if-not-is_finite.false) c.if-s-gt-LONGEST_TEXT.true

pub returns-then-s : goal.returns-then-s
returns-then-s c =
    over_full _ (sym c.is_finite.ensures ∙ c.if-not-is_finite.false) c.if-s-gt-LONGEST_TEXT.false c.if-s.true

pub returns-then-s-gt-LAST_RANGE : goal.returns-then-s-gt-LAST_RANGE
returns-then-s-gt-LAST_RANGE c =
    over_range _ (sym c.is_finite.ensures ∙ c.if-not-is_finite.false) c.if-s-gt-LONGEST_TEXT.false c.if-s.false c.if-s-gt-LAST_RANGE.true

pub returns : goal.returns
returns c =
    c.any_above.ensures
    ∙ rw c.counts_held-counts.ensures
    (by_counts _ (sym c.is_finite.ensures ∙ c.if-not-is_finite.false) c.if-s-gt-LONGEST_TEXT.false c.if-s.false c.if-s-gt-LAST_RANGE.false)
