use mathlib.Core.Path.{◌≡◌}
use lib.ListN.{take}
use Rattle.md_chooser_meaning.specs.Cut.{cut}
use Rattle.md_chooser.proofs.cut_length.Given as goal

abbrev pub invariant-loop-k : goal.invariant-loop-k
invariant-loop-k l = cut l.text ≡ cut (take l.k l.text)
