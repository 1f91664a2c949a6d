-- After k layers the standing is what those layers come to, the numbers and letters stand as they stood, and each layer has added at most MOST-INCLUDED
-- sufficient matches. Assumes nothing.
use Rattle.cd_meaning.proofs.Laws.Reading.{read_start, read_room, read_undotted, read_more, read_bound, read_end}
use Rattle.cd.proofs.reading.read_layers.Goals as goal

pub loop-k-init : goal.loop-k-init
loop-k-init c = rw c.start-s.ensures (read_start _ _ _ _ _ _ _ _)

pub read_layer-s-requires : goal.read_layer-s-requires
read_layer-s-requires c = (
  c.requires.0,
  read_room _ _ _ _ _ _ _ _ c.loop-k.invariant c.requires.1,
  read_undotted _ _ _ _ _ _ _ _ c.loop-k.invariant c.requires.2,
  read_bound _ _ _ _ _ _ _ _ c.loop-k.invariant c.requires.3,
)

pub loop-k-preserved : goal.loop-k-preserved
loop-k-preserved c =
    read_more _ _ _ _ _ _ _ _ c.loop-k.invariant c.requires.0 c.loop-k-test.true _ _ c.read_layer-s.ensures.1 c.read_layer-s.ensures.0

pub returns : goal.returns
returns c =
    (read_end _ _ _ _ _ _ _ _ c.loop-k.invariant c.loop-k-test.false, c.loop-k.invariant.kept)
