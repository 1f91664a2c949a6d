-- Each return is the next of 01's causes, or what comes behind them, the class table being good. Assumes nothing.
use mathlib.Core.Path.{sym, ◌∙◌}
use Rattle.base.proofs.Laws.Causes.{handed_on}
use Rattle.classes.proofs.Laws.Check.{free_good}
use Rattle.cd_meaning.proofs.Laws.Causes.{classes_bad, pairs_bad, tables_on}
use Rattle.cd.proofs.causes.of_tables.Goals as goal

pub of_languages-requires : goal.of_languages-requires
of_languages-requires c =
    (c.requires, free_good _ (sym c.bad_classes.ensures ∙ c.in_ok-bad_classes.was))

pub returns-in_err-bad_classes : goal.returns-in_err-bad_classes
returns-in_err-bad_classes c =
    handed_on _ _ c.from_residual.ensures.1 ∙ classes_bad _ _ _ _ _ _ _ _ (sym c.bad_classes.ensures ∙ c.in_err-bad_classes.was)

pub returns-in_err-bad_pairs : goal.returns-in_err-bad_pairs
returns-in_err-bad_pairs c =
    handed_on _ _ c.from_residual-in_err-bad_pairs.ensures.1
    ∙ pairs_bad _ _ _ _ _ _ _ (sym c.bad_classes.ensures ∙ c.in_ok-bad_classes.was) _ (sym c.bad_pairs.ensures ∙ c.in_err-bad_pairs.was)

pub returns : goal.returns
returns c =
    tables_on _ _ _ _ _ _ _ (sym c.bad_classes.ensures ∙ c.in_ok-bad_classes.was)
    (sym c.bad_pairs.ensures ∙ c.in_ok-bad_pairs.was)
    _
    c.of_languages.ensures
