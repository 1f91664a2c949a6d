-- Zeros where opening refuses; else the state, whose threshold is finite and so no NaN. Assumes nothing.
use mathlib.Core.Path.{sym, ◌∙◌}
use Rattle.md_running_meaning.proofs.Laws.Opening.{opened_finite}
use Rattle.md_lent_meaning.proofs.Laws.Bits.{finite_number}
use Rattle.md_lent_meaning.proofs.Laws.Lent.{opened_none, opened_line}
use Rattle.md_lent.proofs.open_lent.Goals as goal

pub float_to_bits-s : goal.float_to_bits-s
float_to_bits-s c =
    finite_number _ (opened_finite _ _ _ _ _ (sym c.open_line.ensures ∙ c.in-Ok.is))

pub returns-in-Err : goal.returns-in-Err
returns-in-Err c =
    rw (c.number.ensures, c.no_lent.ensures, ← c.open_line.ensures) (opened_none _ _ c.in-Err.is)

pub returns-in-Ok : goal.returns-in-Ok
returns-in-Ok c =
    rw (c.lent_of.ensures, ← c.open_line.ensures) (opened_line _ _ c.in-Ok.is)
