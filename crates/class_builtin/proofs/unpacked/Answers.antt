-- The code takes a word apart as the definition does. Assumes nothing.
use mathlib.Core.Path.{refl}
use Rattle.class_builtin.specs.Inner.Packed.{unpack}
use Rattle.class_builtin.proofs.unpacked.Goals as goal

pub returns : goal.returns
unfolding unpack
returns c = refl
