-- The value is Table 3-6 from right to left, and fits since each part is a remainder. Assumes nothing.
use Rattle.utf8_table.proofs.four_at.Goals as goal

pub returns : goal.returns
returns c =
    rw (c.wide-4.ensures.is, c.wide-3.ensures.is, c.wide-2.ensures.is, c.wide.ensures.is)
