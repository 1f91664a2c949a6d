-- One more received, and nothing else. Assumes nothing.
use mathlib.Core.Path.{refl}
use Rattle.md_running_meaning.specs.Feeding.{arrived}
use Rattle.md_running.proofs.step.arrived.Goals as goal

pub returns : goal.returns
unfolding arrived
returns c = refl
