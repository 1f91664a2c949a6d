-- The places of the first k letters are marked (`Marking`).
-- Assumes nothing.
use Rattle.cd_alphabet.proofs.Loops.Sieve.{marking_start, marking_room, marking_more, marking_end}
use Rattle.cd_alphabet.proofs.mark.Goals as goal

pub loop-x-init : goal.loop-x-init
loop-x-init c = marking_start _ _

pub bounds-sieve-x : goal.bounds-sieve-x
bounds-sieve-x c = marking_room _ _ c.loop-x.invariant c.requires

pub loop-x-preserved : goal.loop-x-preserved
loop-x-preserved c = marking_more _ _ c.loop-x.invariant c.requires

pub shape_of-sieve : goal.shape_of-sieve
shape_of-sieve c = c.loop-x.invariant.size

pub returns : goal.returns
returns c = marking_end _ _ c.loop-x.invariant c.requires c.loop-x-test.false
