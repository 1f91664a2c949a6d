-- What the definition hands back in a refusal. Assumes nothing.
use mathlib.Core.Path.{refl}
use Rattle.base.specs.Counted.{count_unless}
use Rattle.md_running_meaning.specs.Feeding.{state_unless, fed_unless}
use Rattle.md_running.proofs.step.unfed.Goals as goal

pub returns : goal.returns
unfolding fed_unless state_unless count_unless
returns c = refl
