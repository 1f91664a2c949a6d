-- Each return is the next of 01's causes, or what comes behind them. Assumes nothing.
use mathlib.Core.Path.{sym, ◌∙◌}
use Rattle.base.proofs.Laws.Causes.{handed_on}
use Rattle.cd_meaning.proofs.Laws.Causes.{languages_bad, included_bad, languages_on}
use Rattle.cd.proofs.causes.of_languages.Goals as goal

pub returns-in_err-bad_languages : goal.returns-in_err-bad_languages
returns-in_err-bad_languages c =
    handed_on _ _ c.from_residual.ensures.1 ∙ languages_bad _ _ _ _ _ _ _ (sym c.bad_languages.ensures ∙ c.in_err-bad_languages.was)

pub returns-in_err-bad_included : goal.returns-in_err-bad_included
returns-in_err-bad_included c =
    handed_on _ _ c.from_residual-in_err-bad_included.ensures.1
    ∙ included_bad _ _ _ _ _ _ (sym c.bad_languages.ensures ∙ c.in_ok-bad_languages.was) _ (sym c.bad_included.ensures ∙ c.in_err-bad_included.was)

pub returns : goal.returns
returns c =
    languages_on _ _ _ _ _ _ (sym c.bad_languages.ensures ∙ c.in_ok-bad_languages.was)
    (sym c.bad_included.ensures ∙ c.in_ok-bad_included.was)
    _
    c.of_text.ensures
