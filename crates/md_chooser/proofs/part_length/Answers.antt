-- One law for each verdict. Assumes nothing.
use mathlib.Core.Path.{◌≡◌}
use Rattle.md_chooser_meaning.specs.declared.Side.TheVariants.{First, Second}
use Rattle.md_chooser_meaning.proofs.Laws.Choose.{length_first, length_second, length_refused}
use Rattle.md_chooser.proofs.part_length.Goals as goal

pub returns-in-Ok-First : goal.returns-in-Ok-First
returns-in-Ok-First c =
    let side : c.in-Ok-First.field-0 ≡ First = rw c.in-Ok-First.is at c.in-Ok-First.field-0-is in
    length_first _ _ _ _ (rw side at c.in-Ok-First.is) c.cut_length.ensures

pub returns-in-Ok-Second : goal.returns-in-Ok-Second
returns-in-Ok-Second c =
    let side : c.in-Ok-Second.field-0 ≡ Second = rw c.in-Ok-Second.is at c.in-Ok-Second.field-0-is in
    length_second _ _ _ _ (rw side at c.in-Ok-Second.is) c.cut_length-in-Ok-Second.ensures

pub returns-in-Err : goal.returns-in-Err
returns-in-Err c = length_refused _ _ _ _ c.in-Err.is
