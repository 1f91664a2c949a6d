-- What was found, with what is left, is all there is (`Checking`). Assumes nothing.
use Rattle.utf8_form.proofs.Loops.Checking.{checking_start, checking_more, checking_end}
use Rattle.utf8_form.proofs.check.all_scalar.Goals as goal

pub loop-c-init : goal.loop-c-init
loop-c-init c = checking_start _

pub loop-c-preserved : goal.loop-c-preserved
loop-c-preserved c = checking_more _ c.loop-c.invariant c.loop-c-test.true _ c.has_form-good.ensures

pub returns : goal.returns
returns c = checking_end _ c.loop-c.invariant c.loop-c-test.false
