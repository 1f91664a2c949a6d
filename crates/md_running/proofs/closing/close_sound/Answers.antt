-- Each return is one of the definition's cases, in its order. Assumes nothing.
use mathlib.Core.Path.{◌∙◌}
use Rattle.md_running_meaning.proofs.Laws.Bounds.{sound_countable}
use Rattle.md_running_meaning.proofs.Laws.Closing.{close_short, close_stopped, close_over, ended_countable}
use Rattle.md_running.proofs.closing.close_sound.Goals as goal

pub returns-then-s : goal.returns-then-s
returns-then-s c = c.refuse.ensures ∙ close_short _ c.if-s.true

pub scored-requires : goal.scored-requires
scored-requires c = sound_countable _ c.requires

pub returns-then-s-2 : goal.returns-then-s-2
returns-then-s-2 c = c.scored.ensures ∙ close_stopped _ c.if-s.false c.if-s-2.true

pub over_at-over-requires : goal.over_at-over-requires
over_at-over-requires c =
    rw c.ended-eight.ensures (ended_countable _ c.requires)

pub scored-requires-2 : goal.scored-requires-2
scored-requires-2 c =
    rw c.ended-eight.ensures (ended_countable _ c.requires)

pub returns : goal.returns
returns c =
    c.scored-2.ensures ∙ close_over _ c.if-s.false c.if-s-2.false _ _ c.ended-eight.ensures c.over_at-over.ensures
