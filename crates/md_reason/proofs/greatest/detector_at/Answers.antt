-- Each number's detector, and none at 0. Assumes nothing.
use mathlib.Core.Path.{◌≡◌}
use native.Mathlib.Omega.{arith}
use Rattle.md_reason_meaning.specs.Numbered.{detector_at}
use Rattle.md_reason.proofs.greatest.detector_at.Goals as goal

pub returns-in-1 : goal.returns-in-1
unfolding detector_at
returns-in-1 c = rw c.in-1.is

pub returns-in-2 : goal.returns-in-2
unfolding detector_at
returns-in-2 c = rw c.in-2.is

pub returns-in-3 : goal.returns-in-3
unfolding detector_at
returns-in-3 c = rw c.in-3.is

pub returns-in-4 : goal.returns-in-4
unfolding detector_at
returns-in-4 c = rw c.in-4.is

pub returns-in-5 : goal.returns-in-5
unfolding detector_at
returns-in-5 c = rw c.in-5.is

pub returns-in-6 : goal.returns-in-6
unfolding detector_at
returns-in-6 c = rw c.in-6.is

pub returns-in-7 : goal.returns-in-7
unfolding detector_at
returns-in-7 c = rw c.in-7.is

pub returns-in-8 : goal.returns-in-8
unfolding detector_at
returns-in-8 c = rw c.in-8.is

pub returns-in_default : goal.returns-in_default
unfolding detector_at
returns-in_default c = let e : c.args.d ≡ 0 = omega (arith, c.requires) in rw e
