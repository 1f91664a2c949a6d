-- The run's end, the state that the eight come to, and the space behind it as one step more. Assumes nothing.
use native.Mathlib.Omega.{arith}
use Rattle.md_runs.proofs.Laws.Runs.{before_room, before_last, lower_inside, lower_step, spaced_room, advanced_spaced}
use Rattle.md.proofs.step.fed_lower.Goals as goal

pub run_end-next-requires : goal.run_end-next-requires
run_end-next-requires c =
    let asked = c.requires in
    (lower_inside _ _ _ _ _ _ asked.0 asked.1 asked.2, asked.0.short)

pub is_suspicious-suspicious-requires : goal.is_suspicious-suspicious-requires
is_suspicious-suspicious-requires c =
    let asked = c.requires in
    (asked.0.tables.fits, rw c.last_range.ensures (before_last _ _ _ _ _ _ asked.0), omega arith)

pub lower_run-t-requires : goal.lower_run-t-requires
lower_run-t-requires c =
    let asked = c.requires in
    let ended = c.run_end-next in (
      before_room _ _ _ _ _ _ asked.0,
      omega (arith, ended.ensures.begins),
      omega (arith, ended.ensures.ends, asked.0.short),
    )

pub space-requires : goal.space-requires
space-requires c =
    let ended = c.run_end-next in
    let asked = c.requires in
    let step = lower_step _ _ _ _ _ _ asked.0 asked.1 asked.2 _ ended.ensures _ _ _ c.last_range.ensures
    c.is_suspicious-suspicious.ensures c.is_suspicious-again.ensures _ c.lower_run-t.ensures in
    spaced_room _ _ _ _ _ asked.0.tables asked.0.short step (c.before_space.ensures c.if-before_space.true)

pub returns-then-before_space : goal.returns-then-before_space
returns-then-before_space c =
    let ended = c.run_end-next in
    let asked = c.requires in
    let step = lower_step _ _ _ _ _ _ asked.0 asked.1 asked.2 _ ended.ensures _ _ _ c.last_range.ensures
    c.is_suspicious-suspicious.ensures c.is_suspicious-again.ensures _ c.lower_run-t.ensures in
    advanced_spaced _ _ _ _ _ asked.0.tables asked.0.short step (c.before_space.ensures c.if-before_space.true) _ c.space.ensures

pub returns : goal.returns
returns c =
    let ended = c.run_end-next in
    let asked = c.requires in
    lower_step _ _ _ _ _ _ asked.0 asked.1 asked.2 _ ended.ensures _ _ _ c.last_range.ensures
    c.is_suspicious-suspicious.ensures c.is_suspicious-again.ensures _ c.lower_run-t.ensures
