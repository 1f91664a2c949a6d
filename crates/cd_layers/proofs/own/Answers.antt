-- `own` walks the keys: none of the first j is the range. Assumes nothing.
use mathlib.Core.Path.{sym}
use Rattle.cd_layers.proofs.Loops.Looking.{look_start, look_on, look_hit, look_all, own_not, own_so}
use Rattle.cd_layers.proofs.own.Goals as goal

pub loop-j-init : goal.loop-j-init
loop-j-init c = look_start _ _

pub returns-then-key-range : goal.returns-then-key-range
returns-then-key-range c = sym (look_hit _ _ c.loop-j.invariant c.loop-j-test.true (own_so _ _ c.if-key-range.true))

pub loop-j-preserved : goal.loop-j-preserved
loop-j-preserved c = look_on _ _ c.loop-j.invariant c.loop-j-test.true (own_not _ _ c.if-key-range.false)

pub returns : goal.returns
returns c = look_all _ _ c.loop-j.invariant c.loop-j-test.false
