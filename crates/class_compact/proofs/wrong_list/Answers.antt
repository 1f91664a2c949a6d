-- The same tests. Assumes nothing.
use Rattle.class_compact_meaning.specs.Inner.Form.{wrong_list}
use mathlib.Core.Path.{refl}
use Rattle.class_compact.proofs.wrong_list.Goals as goal

pub returns : goal.returns
unfolding wrong_list
returns c = refl
