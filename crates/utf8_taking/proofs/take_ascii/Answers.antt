-- The first byte stands at `to` and the run behind it from the next place on. Assumes nothing.
use Rattle.utf8_taking.proofs.Loops.Taking.{run_room, took_ascii}
use Rattle.utf8_taking.proofs.take_ascii.Goals as goal

pub widen-requires : goal.widen-requires
widen-requires c =
    let p = c.requires in
    run_room _ _ _ _ _ _ p.0 c.past_ascii-next.ensures

pub shape_of-out : goal.shape_of-out
shape_of-out c =
    let p = c.requires in
    rw (c.widen.ensures, c.wide.ensures.is)
    (took_ascii _ _ _ _ _ p.0 p.1 c.past_ascii-next.ensures).taken.same

pub returns : goal.returns
returns c =
    let p = c.requires in
    rw (c.widen.ensures, c.wide.ensures.is)
    (took_ascii _ _ _ _ _ p.0 p.1 c.past_ascii-next.ensures)
