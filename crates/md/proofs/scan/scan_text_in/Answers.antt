-- The invariant: the state is that after i characters, and both the stop and the first unclassed character are still to be found from i on.
-- Assumes nothing.
use mathlib.Core.Path.{sym, ◌∙◌}
use native.Mathlib.Omega.{arith}
use Rattle.md.proofs.Loops.Going.{going_start, going_before, going_countable, going_missing, fed_countable, fed_counted, going_on, going_stopped, going_ended}
use Rattle.md_runs.proofs.Laws.Runs.{before_looked, advanced_slim}
use Rattle.md_meaning.proofs.Laws.Scan.{answered_state}
use Rattle.md.proofs.scan.scan_text_in.Goals as goal

pub loop-i-init : goal.loop-i-init
loop-i-init c = going_start _ _ _ _ _ c.start-s.ensures

pub returns-in_default : goal.returns-in_default
returns-in_default c =
    let at_loop = c.loop-i in
    let at_loop_test = c.loop-i-test in
    c.refuse.ensures
    ∙ going_missing _ _ _ _ at_loop.invariant at_loop_test.true
    (sym c.class_at-looked.ensures.found ∙ c.in_default.is)

pub fed_run-f-requires : goal.fed_run-f-requires
fed_run-f-requires c =
    let at_loop = c.loop-i in
    let at_loop_test = c.loop-i-test in
    let asked = c.requires in
    let looked = c.class_at-looked in
    let found = sym looked.ensures.found ∙ c.in-Some.is in
    let here = going_before _ _ _ _ at_loop.invariant asked.tables asked.short _ at_loop_test.true found in
    (here, before_looked _ _ _ _ _ _ here _ looked.ensures.held)

pub recounted-s-requires : goal.recounted-s-requires
recounted-s-requires c =
    let at_loop = c.loop-i in
    let asked = c.requires in
    let went = c.fed_run-f.ensures in
    (fed_counted _ _ _ _ at_loop.invariant _ went, advanced_slim _ _ _ _ _ asked.tables went)

pub is_over-requires : goal.is_over-requires
is_over-requires c =
    let at_loop = c.loop-i in
    let asked = c.requires in
    rw c.recounted-s.ensures (fed_countable _ _ _ _ at_loop.invariant _ c.fed_run-f.ensures (omega (arith, asked.short)))

pub stopped_after-requires : goal.stopped_after-requires
stopped_after-requires c =
    let at_loop = c.loop-i in
    let asked = c.requires in
    let same = c.recounted-s.ensures in
    let went = c.fed_run-f in (
      asked.tables.good,
      asked.short,
      omega (arith, went.ensures.begins, went.ensures.ends),
      rw same (fed_countable _ _ _ _ at_loop.invariant _ went.ensures (omega (arith, asked.short))),
    )

pub returns-then-is_over : goal.returns-then-is_over
returns-then-is_over c =
    let at_loop = c.loop-i in
    let same = c.recounted-s.ensures in
    let went = c.fed_run-f in
    going_stopped _ _ _ _ at_loop.invariant _ went.ensures _ (omega (arith, went.ensures.begins)) _ same
    _
    c.is_over.ensures
    c.if-is_over.true
    _
    c.stopped_after.ensures

pub loop-i-preserved : goal.loop-i-preserved
loop-i-preserved c =
    let at_loop = c.loop-i in
    let went = c.fed_run-f in
    going_on _ _ _ _ at_loop.invariant _ went.ensures _ (omega (arith, went.ensures.begins)) _ c.recounted-s.ensures
    _
    c.is_over.ensures
    c.if-is_over.false

pub counts-requires : goal.counts-requires
counts-requires c =
    let at_pre = c.requires in
    going_countable _ _ _ _ c.loop-i.invariant (omega (arith, at_pre.short))

pub answered-requires : goal.answered-requires
answered-requires c =
    let at_pre = c.requires in
    rw c.counts.ensures (going_countable _ _ _ _ c.loop-i.invariant (omega (arith, at_pre.short)))

pub returns : goal.returns
returns c =
    c.answered.ensures
    ∙ answered_state _ _ _ _ c.counts.ensures
    ∙ going_ended _ _ _ _ c.loop-i.invariant c.loop-i-test.false
