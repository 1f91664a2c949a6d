-- No letters before k are these. Assumes nothing.
use Rattle.class_compact.proofs.Loops.Seeking.{seeking_start, seeking_hit, seeking_more, seeking_end}
use Rattle.class_compact_meaning.specs.Check.{letters_are}
use Rattle.class_compact.proofs.form.find_letters.Goals as goal

pub loop-k-init : goal.loop-k-init
loop-k-init c = seeking_start _ _

pub returns-then-base_at-base : goal.returns-then-base_at-base
unfolding letters_are
returns-then-base_at-base c =
    seeking_hit _ _ c.loop-k.invariant c.loop-k-test.true
    (rw (c.lower_at.ensures, c.base_at.ensures) at c.if-base_at-base.true)

pub loop-k-preserved : goal.loop-k-preserved
unfolding letters_are
loop-k-preserved c =
    seeking_more _ _ c.loop-k.invariant c.loop-k-test.true
    (rw (c.lower_at.ensures, c.base_at.ensures) at c.if-base_at-base.false)

pub returns : goal.returns
returns c = seeking_end _ _ c.loop-k.invariant c.loop-k-test.false
