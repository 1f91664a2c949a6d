-- The part's length is at most that of a text that was scored, so that it fits. Assumes nothing.
use native.Mathlib.Omega.{arith}
use Rattle.md_chooser_meaning.proofs.Laws.Choose.{chosen_short, chosen_length}
use Rattle.md_chooser.proofs.choose_part.Goals as goal

pub overflow_cast-result : goal.overflow_cast-result
overflow_cast-result c = omega (arith, chosen_short _ _ _ _ _ c.verdict-told.ensures _ c.part_length-n.ensures)

pub returns : goal.returns
returns c =
    let judged = c.verdict-told.ensures in
    (judged, chosen_length _ _ _ _ _ judged _ c.part_length-n.ensures)
