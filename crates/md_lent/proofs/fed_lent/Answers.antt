-- A refusal leaves the numbers as they are, and a count what is left of them. Assumes nothing.
use Rattle.md_lent_meaning.proofs.Laws.Lent.{left_refused, left_counted}
use Rattle.md_lent.proofs.fed_lent.Goals as goal

pub returns-in-Err : goal.returns-in-Err
returns-in-Err c = left_refused _ _ _ c.in-Err.is

pub returns-in-Ok : goal.returns-in-Ok
returns-in-Ok c = rw c.next_lent.ensures (left_counted _ _ _ c.in-Ok.is)
