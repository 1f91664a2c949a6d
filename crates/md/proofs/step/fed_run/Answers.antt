-- A run of lower-case letters is a step; behind another step the space is one step more. Assumes nothing.
use Rattle.md_runs.proofs.Laws.Runs.{advanced_as, advanced_slim, spaced_room, advanced_spaced}
use Rattle.md.proofs.step.fed_run.Goals as goal

pub slimmed-slim-requires : goal.slimmed-slim-requires
slimmed-slim-requires c =
    let asked = c.requires in
    advanced_slim _ _ _ _ _ asked.0.tables c.fed_word-f.ensures

pub space-requires : goal.space-requires
space-requires c =
    let asked = c.requires in
    spaced_room _ _ _ _ _ asked.0.tables asked.0.short (advanced_as _ _ _ _ _ c.fed_word-f.ensures _ c.slimmed-slim.ensures)
    (c.before_space.ensures c.if-before_space.true)

pub returns-then-before_space : goal.returns-then-before_space
returns-then-before_space c =
    let asked = c.requires in
    advanced_spaced _ _ _ _ _ asked.0.tables asked.0.short (advanced_as _ _ _ _ _ c.fed_word-f.ensures _ c.slimmed-slim.ensures)
    (c.before_space.ensures c.if-before_space.true) _ c.space.ensures
