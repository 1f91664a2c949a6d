-- No match is put at first, and each turn puts one more. Assumes nothing.
use native.Mathlib.Omega.{arith}
use mathlib.Core.Path.{sym}
use Prim.Native.Nat.{◌<◌}
use lib.ListN.{length}
use Rattle.cd_list.proofs.Loops.Filled.{filled_none, filled_more}
use Rattle.cd_list.proofs.put_matches.Goals as goal

pub loop-i-init : goal.loop-i-init
loop-i-init c = sym (filled_none c.args.r c.args.out.now)

pub loop-i-preserved : goal.loop-i-preserved
loop-i-preserved c =
    let inside : c.loop-i.i < length c.args.out.now = omega (arith, c.requires.1) in
    rw (c.entry_at.ensures, c.loop-i.invariant) (filled_more c.args.r c.args.out.now c.loop-i.i inside)
