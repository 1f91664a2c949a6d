use Prim.Native.Nat.{◌+◌, ◌*◌}
use Rattle.md_lines_meaning.specs.Inner.Lines.{Passing}
use Rattle.md_lines.proofs.split.past_line_eights.Given as goal

abbrev pub invariant-loop-k : goal.invariant-loop-k
invariant-loop-k l = Passing l.b l.from (l.from + 8 * l.k)
