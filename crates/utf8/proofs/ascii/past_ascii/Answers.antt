-- One ASCII byte, then the eights, then the ones make one run. Assumes nothing.
use Rattle.utf8_meaning.proofs.Laws.Ascii.{run_first, run_join}
use Rattle.utf8.proofs.ascii.past_ascii.Goals as goal

pub returns : goal.returns
returns c = run_first _ _ _ c.if-b-i.false c.if-b-i-ge128.false (run_join _ _ _ c.past_eights.ensures _ c.past_ones.ensures)
