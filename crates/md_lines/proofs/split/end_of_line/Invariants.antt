use Rattle.md_lines_meaning.specs.Inner.Lines.{Passing}
use Rattle.md_lines.proofs.split.end_of_line.Given as goal

abbrev pub invariant-loop-j : goal.invariant-loop-j
invariant-loop-j l = Passing l.bytes l.from l.j
