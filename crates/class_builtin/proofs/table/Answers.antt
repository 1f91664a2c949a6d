-- The constants are the list of words, entry for entry. Assumes nothing.
use mathlib.Core.Path.{refl}
use Rattle.class_builtin.specs.Inner.Words.{packed_words}
use Rattle.class_builtin.proofs.table.Goals as goal

pub returns : goal.returns
unfolding packed_words
returns c = refl
