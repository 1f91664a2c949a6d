-- The state that feeding leaves, and the flat form of its answer. Assumes nothing.
use mathlib.Core.Path.{refl}
use Rattle.host.specs.Running.{fed_host}
use Rattle.host.proofs.drasumira_feed.Goals as goal

pub returns : goal.returns
unfolding fed_host
returns c = rw (c.from-fed.ensures, c.feed_lent.ensures) (refl, refl)
