-- By the cause. Assumes nothing.
use Rattle.base.proofs.Laws.Causes.{handed_on}
use Rattle.class_compact_meaning.proofs.Laws.Calls.{pack_bad}
use Rattle.classes.proofs.Laws.Check.{free_good}
use mathlib.Core.Path.{sym, ◌∙◌}
use Rattle.class_compact.proofs.pack.Goals as goal

pub pack_good-requires : goal.pack_good-requires
pack_good-requires c = free_good _ (sym c.bad_classes.ensures ∙ c.in_ok-bad_classes.was)

pub returns-in_err-bad_classes : goal.returns-in_err-bad_classes
returns-in_err-bad_classes c =
    let told = pack_bad _ _ _ _ (sym c.bad_classes.ensures ∙ c.in_err-bad_classes.was) in
    record { value = handed_on _ _ c.from_residual.ensures.1 ∙ told.0; records_after = told.1.0; letters_after = told.1.1 }
