-- The first parts of the two arrays are the definition's lists after i letters (`Matched`).
-- Assumes nothing.
use native.Mathlib.Omega.{arith}
use Rattle.cd_jaro.proofs.Loops.Matched.{matched_start, matched_paired, matched_reach}
use Rattle.cd_jaro.proofs.Loops.Matched.{matched_miss, matched_room, matched_hit, matched_end}
use Rattle.cd_jaro.proofs.matched.Goals as goal
use Rattle.cd_jaro.proofs.matched.Goals.{then-j-n, else-j-n}

pub loop-i-init : goal.loop-i-init
loop-i-init c = matched_start _ _ c.requires.1

pub place-j-requires : goal.place-j-requires
place-j-requires c =
    matched_reach _ _ c.loop-i.invariant c.loop-i-test.true c.window-w.ensures c.requires.0 c.requires.1

pub bounds-letters-m : goal.bounds-letters-m
bounds-letters-m c = omega (arith, matched_room _ _ c.loop-i.invariant c.loop-i-test.true c.window-w.ensures c.place-j.ensures c.if-j-n.true c.requires.1)

pub loop-i-preserved : goal.loop-i-preserved
loop-i-preserved c =
    elim c.if-j-n.branch [
      | then-j-n w ↦ rw (w.taken-is, w.letters-is, w.m-is) (matched_hit _ _ c.loop-i.invariant c.loop-i-test.true c.window-w.ensures c.place-j.ensures w.if-j-n.true c.requires.1)
      | else-j-n w ↦ rw (w.taken-is, w.letters-is, w.m-is) (matched_miss _ _ c.loop-i.invariant c.loop-i-test.true c.window-w.ensures c.place-j.ensures w.if-j-n.false)
    ]

pub out_of_order-out-requires : goal.out_of_order-out-requires
out_of_order-out-requires c =
    matched_paired _ _ c.loop-i.invariant c.requires.1

pub returns : goal.returns
returns c = matched_end _ _ c.loop-i.invariant c.loop-i-test.false c.out_of_order-out.ensures
