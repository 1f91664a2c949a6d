-- The word at the code point's own place holds its entry: `packed_entry`. Assumes nothing.
use mathlib.Core.Path.{ap, ◌∙◌}
use mathlib.Core.List.{List}
use Prim.Native.Nat.{ℕ}
use lib.ListN.{get_or}
use Rattle.class_builtin.specs.Inner.Packed.{unpack}
use Rattle.class_builtin.proofs.Laws.Packed.{packed_entry}
use Rattle.class_builtin.proofs.entry_in.Goals as goal

pub returns : goal.returns
returns c =
    let args = c.args in
    c.unpacked.ensures
    ∙ ap (λ (t : List ℕ). unpack (get_or t args.point 0)) c.requires.1
    ∙ packed_entry args.point c.requires.0
