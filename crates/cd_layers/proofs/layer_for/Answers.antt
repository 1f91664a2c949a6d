-- `layer_for` walks the keys: none of the first j accepts the range; where none does, `own` decides. Assumes nothing.
use Rattle.cd_layers.proofs.Loops.Looking.{look_start, look_on, layer_joins, layer_own, accepts_not, accepts_so}
use Rattle.cd_layers.proofs.layer_for.Goals as goal

pub loop-j-init : goal.loop-j-init
loop-j-init c = look_start _ _

pub loop-j-preserved : goal.loop-j-preserved
loop-j-preserved c =
    look_on _ _ c.loop-j.invariant c.loop-j-test.true (accepts_not _ _ _ _ c.is_suspicious.ensures c.if-not-is_suspicious.false)

pub returns-then-not-is_suspicious : goal.returns-then-not-is_suspicious
returns-then-not-is_suspicious c =
    layer_joins _ _ _ c.loop-j.invariant c.loop-j-test.true (accepts_so _ _ _ _ c.is_suspicious.ensures c.if-not-is_suspicious.true)

pub returns : goal.returns
returns c = layer_own _ _ _ _ c.loop-j.invariant c.loop-j-test.false c.own.ensures
