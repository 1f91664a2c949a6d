use Prim.Native.Nat.{◌+◌}
use mathlib.Core.Path.{◌≡◌}
use Rattle.std.specs.Slice.Iter.{chunks_rest, chunks_size}
use Rattle.md_lines_meaning.specs.Inner.Lines.{BLOCK, ends_of}
use Rattle.md_lines.proofs.split.count_ends.Given as goal

abbrev pub invariant-loop-block : goal.invariant-loop-block
invariant-loop-block l =
    goal.iterator-loop-block.can_next l.block-iterator
    × goal.iterator-loop-block.is_finite l.block-iterator
    × (chunks_size l.block-iterator ≡ BLOCK)
    × (l.n + ends_of (chunks_rest l.block-iterator) ≡ ends_of l.bytes)
