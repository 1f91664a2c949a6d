-- One slot after the other. Assumes nothing.
use Rattle.cd_taken.proofs.put_two.Goals as goal

pub returns : goal.returns
returns c =
    rw (c.put_slot-2.ensures, c.put_slot.ensures)
