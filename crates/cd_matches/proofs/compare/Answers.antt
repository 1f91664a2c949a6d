-- What stands, and the matches that are left, come to what all of them come to (`Walking`).
-- Assumes nothing.
use mathlib.Core.Path.{refl, sym}
use native.Mathlib.Omega.{arith}
use Rattle.cd_languages.proofs.Laws.Languages.{good_most}
use Rattle.cd_best.proofs.Loops.Walking.{walk_start, walk_below, walk_ends, walk_on, walk_end}
use Rattle.cd_matches.proofs.Laws.Matches.{scores_length, score_is}
use Rattle.cd_matches.proofs.compare.Goals as goal

pub loop-record-init : goal.loop-record-init
loop-record-init c = (walk_start _ _ _ _, refl)

pub overflow_cast-at : goal.overflow_cast-at
overflow_cast-at c =
    record { fits = omega (arith, c.requires.1 c.loop-record.record-index c.loop-record-test.true, good_most c.args.languages.now c.requires.0) }

pub slice_bounds-score_at-end : goal.slice_bounds-score_at-end
slice_bounds-score_at-end c = sym c.loop-record.invariant.1

pub score_at-score-requires : goal.score_at-score-requires
score_at-score-requires c =
    (c.requires.0, c.requires.1 _ c.loop-record-test.true, c.requires.3, omega (arith, c.loop-record.invariant.1))

pub loop-record-preserved-then-score-threshold : goal.loop-record-preserved-then-score-threshold
loop-record-preserved-then-score-threshold c = (
  walk_below _ _ _ _ c.loop-record.invariant.0 c.loop-record-test.true (scores_length _ _ _)
      (rw (score_is c.args.languages.now c.args.order.now c.args.records.now c.loop-record.record-index c.loop-record-test.true _
      c.score_at-score.ensures) at c.if-score-threshold.true),
  omega arith,
)

pub keep-s-requires : goal.keep-s-requires
keep-s-requires c = (
  omega (arith, c.requires.1 c.loop-record.record-index c.loop-record-test.true, good_most c.args.languages.now c.requires.0),
  omega
      (arith, c.loop-record.invariant.0.few, c.loop-record-test.true, c.requires.2, c.requires.4),
)

pub returns-then-n-ge-ENOUGH : goal.returns-then-n-ge-ENOUGH
returns-then-n-ge-ENOUGH c =
    walk_ends _ _ _ _ c.loop-record.invariant.0 c.loop-record-test.true (scores_length _ _ _)
    (rw (score_is c.args.languages.now c.args.order.now c.args.records.now c.loop-record.record-index c.loop-record-test.true _
    c.score_at-score.ensures) at c.if-score-threshold.false) _
    (rw (score_is c.args.languages.now c.args.order.now c.args.records.now c.loop-record.record-index c.loop-record-test.true _
    c.score_at-score.ensures) at c.keep-s.ensures) c.if-n-ge-ENOUGH.true

pub loop-record-preserved : goal.loop-record-preserved
loop-record-preserved c = (
  walk_on _ _ _ _ c.loop-record.invariant.0 c.loop-record-test.true (scores_length _ _ _)
      (rw (score_is c.args.languages.now c.args.order.now c.args.records.now c.loop-record.record-index c.loop-record-test.true _
      c.score_at-score.ensures) at c.if-score-threshold.false) _
      (rw (score_is c.args.languages.now c.args.order.now c.args.records.now c.loop-record.record-index c.loop-record-test.true _
      c.score_at-score.ensures) at c.keep-s.ensures) c.if-n-ge-ENOUGH.false,
  omega arith,
)

pub returns : goal.returns
returns c = walk_end _ _ _ _ c.loop-record.invariant.0 c.loop-record-test.false
