-- Nothing before j serves (`Seeking`): before the window nothing does, and the walk passes another letter or a taken one. The first that
-- serves is the definition's, and past the window nothing does.
-- Assumes nothing.
use mathlib.Core.Bool.{not}
use mathlib.Core.Path.{ap}
use Rattle.cd_jaro.proofs.Loops.Place.{seeking_start, seeking_other, seeking_taken, seeking_found, seeking_end, seeking_absent}
use Rattle.cd_jaro.proofs.place.Goals as goal
use Rattle.cd_jaro.proofs.place.Goals.{else-language-j-via-then-language-j+else-not-taken-j, else-language-j-via-else-language-j}

pub returns-then-not-holds : goal.returns-then-not-holds
returns-then-not-holds c =
    seeking_absent _ _ _ _ _ c.less-start.ensures c.least-end.ensures.is c.holds.ensures (ap not c.if-not-holds.true)

pub loop-j-init : goal.loop-j-init
loop-j-init c = seeking_start _ _ _ _ _ c.less-start.ensures

pub loop-j-preserved : goal.loop-j-preserved
loop-j-preserved c =
    elim c.else-language-j.branch [
      | else-language-j-via-then-language-j+else-not-taken-j w ↦ seeking_taken _ _ _ _ _ c.loop-j.invariant w.if-not-taken-j.false
      | else-language-j-via-else-language-j w ↦ seeking_other _ _ _ _ _ c.loop-j.invariant w.if-language-j.false
    ]

pub returns-then-not-taken-j : goal.returns-then-not-taken-j
returns-then-not-taken-j c =
    seeking_found _ _ _ _ _ c.loop-j.invariant c.least-end.ensures.is c.loop-j-test.true c.if-language-j.true c.if-not-taken-j.true

pub returns : goal.returns
returns c = seeking_end _ _ _ _ _ c.loop-j.invariant c.least-end.ensures.is c.loop-j-test.false
