use Rattle.md_lines.proofs.Loops.Counting.{Counting}
use Rattle.md_lines.proofs.split.ends_in_block.Given as goal

abbrev pub invariant-loop-b : goal.invariant-loop-b
invariant-loop-b l = Counting l.bytes l.n l.b-index
