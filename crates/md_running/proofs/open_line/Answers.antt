-- Each return is one of opening's causes, in its order, or the fresh line behind them. Assumes nothing.
use mathlib.Core.Path.{sym, ◌∙◌}
use Rattle.base.specs.Causes.{refused_at}
use Rattle.base.proofs.Laws.Causes.{handed_on}
use Rattle.md_running_meaning.proofs.Laws.Opening.{open_long, open_lent, open_fresh}
use Rattle.md_running.proofs.open_line.Goals as goal

pub returns-then-length-gt-LONGEST_TEXT : goal.returns-then-length-gt-LONGEST_TEXT
unfolding refused_at
returns-then-length-gt-LONGEST_TEXT c = c.refuse.ensures ∙ open_long _ _ _ _ c.if-length-gt-LONGEST_TEXT.true

pub returns-in_err-check_lent : goal.returns-in_err-check_lent
returns-in_err-check_lent c =
    handed_on _ _ c.from_residual.ensures.1 ∙ open_lent _ _ _ _ c.if-length-gt-LONGEST_TEXT.false _ (sym c.check_lent.ensures ∙ c.in_err-check_lent.was)

pub returns : goal.returns
returns c =
    rw c.fresh_line.ensures
    (open_fresh _ _ _ _ c.if-length-gt-LONGEST_TEXT.false (sym c.check_lent.ensures ∙ c.in_ok-check_lent.was))
