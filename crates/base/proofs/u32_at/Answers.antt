-- Four bytes make the number, lowest first; each is below 256, so that the two low ones are its low half.
-- Assumes nothing.
use Rattle.base.proofs.Laws.Words.{word_of}
use Rattle.base.proofs.u32_at.Goals as goal

pub returns : goal.returns
returns c =
    let third = c.wide-3.ensures in
    let second = c.wide-2.ensures in
    let lowest = c.wide.ensures in
    word_of _ _ _ _ _ _ lowest.is second.is third.is c.wide-4.ensures.is lowest.small second.small
