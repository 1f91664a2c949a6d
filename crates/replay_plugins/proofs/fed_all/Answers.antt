-- After so many characters the detectors are within what these can give. Assumes nothing.
use native.Mathlib.Omega.{arith}
use Rattle.md_eight.proofs.Loops.Detectors.{start_within, feed_within, within_room, within_countable}
use Rattle.replay_plugins.proofs.fed_all.Goals as goal

pub loop-k-init : goal.loop-k-init
loop-k-init c = rw c.start-s.ensures start_within

pub feed-s-requires : goal.feed-s-requires
feed-s-requires c =
    within_room c.loop-k.k-index c.loop-k.s c.loop-k.invariant (omega arith)

pub loop-k-preserved : goal.loop-k-preserved
loop-k-preserved c =
    rw c.feed-s.ensures (feed_within c.loop-k.k-index c.loop-k.s c.loop-k.invariant c.letter_class.result c.suspicious.result)

pub returns : goal.returns
returns c =
    within_countable c.loop-k.k-index c.loop-k.s c.loop-k.invariant (omega arith)
