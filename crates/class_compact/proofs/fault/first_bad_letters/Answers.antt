-- No letters before k are bad, and k has 16 bits since those before it are used. Assumes nothing.
use Rattle.class_compact.proofs.Loops.Seeking.{seeking_start, seeking_hit, seeking_more, seeking_end}
use Rattle.class_compact_meaning.specs.Check.{first_bad_letters}
use mathlib.Core.Path.{sym, ◌∙◌}
use native.Mathlib.Omega.{arith}
use Rattle.class_compact.proofs.fault.first_bad_letters.Goals as goal

pub loop-k-init : goal.loop-k-init
loop-k-init c = (seeking_start _ _, omega arith)

pub returns-then-bad_letters : goal.returns-then-bad_letters
unfolding first_bad_letters
returns-then-bad_letters c =
    record
    { is = seeking_hit _ _ c.loop-k.invariant.0 c.loop-k-test.true (sym c.bad_letters.ensures.is ∙ c.if-bad_letters.true); small = c.loop-k.invariant.1 }

pub loop-k-preserved : goal.loop-k-preserved
loop-k-preserved c = (
  seeking_more _ _ c.loop-k.invariant.0 c.loop-k-test.true (sym c.bad_letters.ensures.is ∙ c.if-bad_letters.false),
  c.bad_letters.ensures.small c.if-bad_letters.false,
)

pub returns : goal.returns
unfolding first_bad_letters
returns c = record { is = seeking_end _ _ c.loop-k.invariant.0 c.loop-k-test.false; small = omega (arith, c.loop-k.invariant.1) }
