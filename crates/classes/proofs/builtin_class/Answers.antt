-- The entry's fields, with 0 turned into the code point. Assumes nothing.
use Rattle.classes.specs.Lookup.{builtin_class}
use Rattle.classes.proofs.builtin_class.Goals as goal

pub returns : goal.returns
unfolding builtin_class
returns c = cc
