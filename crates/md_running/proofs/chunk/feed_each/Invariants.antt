use Rattle.md_running.proofs.Loops.Chunk.{Chunking}
use Rattle.md_running.proofs.chunk.feed_each.Given as goal

abbrev pub invariant-loop-p : goal.invariant-loop-p
invariant-loop-p l = Chunking l.s l.text l.classes l.pairs l.t l.p-index
