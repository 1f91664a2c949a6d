-- The definition's list. Assumes nothing.
use mathlib.Core.Path.{refl}
use Rattle.md_running_meaning.specs.State.{counts_in}
use Rattle.md_running.proofs.state.counts_held.Goals as goal

pub returns : goal.returns
unfolding counts_in
returns c = refl
