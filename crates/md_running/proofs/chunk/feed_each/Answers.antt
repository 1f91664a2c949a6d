-- The invariant: the state is that after i characters, and the first that is refused is looked for from i on (`Chunking`). Assumes nothing.
use mathlib.Core.Path.{sym, ◌∙◌}
use Rattle.md_running.proofs.Loops.Chunk.{chunking_start, chunking_unsound, chunking_unclassed, chunking_taking, chunking_more, chunking_end}
use Rattle.md_running.proofs.chunk.feed_each.Goals as goal

pub loop-p-init : goal.loop-p-init
loop-p-init c = chunking_start _ _ _ _

pub returns-then-is_unsound : goal.returns-then-is_unsound
returns-then-is_unsound c =
    c.unfed.ensures
    ∙ chunking_unsound _ _ _ _ c.loop-p.invariant c.loop-p-test.true (sym c.is_unsound.ensures ∙ c.if-is_unsound.true)

pub returns-in_default : goal.returns-in_default
returns-in_default c =
    c.unfed-in_default.ensures
    ∙ chunking_unclassed _ _ _ _ c.loop-p.invariant c.loop-p-test.true (sym c.is_unsound.ensures ∙ c.if-is_unsound.false)
    (sym c.look_up_in.ensures ∙ c.in_default.is)

pub take-t-requires : goal.take-t-requires
take-t-requires c =
    chunking_taking _ _ _ _ c.loop-p.invariant c.loop-p-test.true (sym c.is_unsound.ensures ∙ c.if-is_unsound.false) _
    (sym c.look_up_in.ensures ∙ c.in-Some.is) c.requires

pub loop-p-preserved : goal.loop-p-preserved
loop-p-preserved c =
    chunking_more _ _ _ _ c.loop-p.invariant c.loop-p-test.true (sym c.is_unsound.ensures ∙ c.if-is_unsound.false) _
    (sym c.look_up_in.ensures ∙ c.in-Some.is) _ c.take-t.ensures

pub returns : goal.returns
returns c = chunking_end _ _ _ _ c.loop-p.invariant c.loop-p-test.false
