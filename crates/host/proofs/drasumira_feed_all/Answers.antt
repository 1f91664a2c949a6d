-- The state that the chunk leaves, and the flat form of its answer. Assumes nothing.
use mathlib.Core.Path.{refl}
use Rattle.host.specs.Running.{chunk_host}
use Rattle.host.proofs.drasumira_feed_all.Goals as goal

pub returns : goal.returns
unfolding chunk_host
returns c = rw (c.from-fed.ensures, c.chunk_lent.ensures) (refl, refl)
