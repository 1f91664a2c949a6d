-- The first records with the first k numbers stand in the first places (`Filling`).
-- Assumes nothing.
use native.Mathlib.Omega.{arith}
use lib.ListN.{get_or}
use Rattle.cd_languages.proofs.Laws.Languages.{first_record_small, good_most}
use Rattle.cd_matches.proofs.Loops.Filling.{filling_start, filling_length, filling_room, filling_more, filling_end}
use Rattle.cd_matches.proofs.included_records.Goals as goal

pub loop-k-init : goal.loop-k-init
loop-k-init c = filling_start _ _ _ c.requires.1

pub overflow_cast-out : goal.overflow_cast-out
overflow_cast-out c =
    omega (arith, c.first_record.ensures, first_record_small c.args.t.now (get_or c.args.included.now c.loop-k.k 0), good_most c.args.t.now c.requires.0)

pub bounds-out-k : goal.bounds-out-k
bounds-out-k c = filling_room _ _ _ c.loop-k.invariant c.loop-k-test.true

pub loop-k-preserved : goal.loop-k-preserved
loop-k-preserved c = filling_more _ _ _ c.loop-k.invariant c.loop-k-test.true _ c.first_record.ensures

pub shape_of-out : goal.shape_of-out
shape_of-out c = filling_length _ _ _ c.loop-k.invariant

pub returns : goal.returns
returns c = filling_end _ _ _ c.loop-k.invariant c.loop-k-test.false
