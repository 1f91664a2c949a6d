-- After each block the ends of what was passed are counted, and those of what is left are still to come. Assumes nothing.
use mathlib.Core.Path.{refl, ◌∙◌}
use native.Mathlib.Omega.{arith}
use borrow.Author.Rules.{rules}
use Rattle.std.specs.Slice.Iter.{chunks_rest}
use Rattle.md_lines_meaning.specs.Burst.{LONGEST_BURST}
use Rattle.md_lines_meaning.specs.Inner.Lines.{ends_of}
use Rattle.md_lines.proofs.Loops.Counting.{ends_parts, ends_below}
use Rattle.md_lines.proofs.split.count_ends.Goals as goal

pub overflow_add-n : goal.overflow_add-n
overflow_add-n c =
    let parts = ends_parts (chunks_rest c.loop-block.block-iterator) c.in-Some.block.now (chunks_rest c.next.new.self) c.in-Some.ensures.steps.1.0 in
    let few = ends_below c.args.bytes.now (ends_of c.args.bytes.now) LONGEST_BURST refl c.requires in
    omega (arith, parts, few, c.ends_in_block.ensures, c.loop-block.invariant.3)

pub loop-block-preserved : goal.loop-block-preserved
loop-block-preserved c =
    let steps = c.in-Some.ensures.steps in
    let parts = ends_parts (chunks_rest c.loop-block.block-iterator) c.in-Some.block.now (chunks_rest c.next.new.self) steps.1.0 in (
      search rules,
      tt,
      steps.0 ∙ c.loop-block.invariant.2,
      omega (arith, parts, c.ends_in_block.ensures, c.loop-block.invariant.3),
    )

pub returns : goal.returns
returns c =
    let none = ends_below (chunks_rest c.loop-block.block-iterator) (ends_of (chunks_rest c.loop-block.block-iterator)) 0 refl (omega (arith, c.in-None.ensures.steps.1.0)) in
    omega (arith, none, c.loop-block.invariant.3)
