-- A sequence of two is taken, or none stands there. Assumes nothing.
use mathlib.Core.Path.{sym, ◌∙◌}
use native.Mathlib.Omega.{arith}
use Rattle.utf8_taking.proofs.Loops.Taking.{taken_none, taken_two, none_two}
use Rattle.utf8_taking.proofs.take_two.Goals as goal

pub returns-then-not-is_two : goal.returns-then-not-is_two
returns-then-not-is_two c =
    let p = c.requires in
    record {
      taken = taken_none _ _ _ _ (omega (arith, p.0.left));
      none = none_two _ _ p.0.left _ p.1 p.2 (sym c.is_two.ensures ∙ c.if-not-is_two.true);
    }

pub two_at-requires : goal.two_at-requires
two_at-requires c =
    let p = c.requires in
    (taken_two _ _ _ _ _ _ _ (taken_none _ _ _ _ (omega (arith, p.0.left))) p.0 p.0.left p.2
    (sym c.is_two.ensures ∙ c.if-not-is_two.false)).fits

pub returns : goal.returns
returns c =
    let p = c.requires in
    rw c.two_at.ensures
    (record {
      taken =
          (taken_two _ _ _ _ _ _ _ (taken_none _ _ _ _ (omega (arith, p.0.left))) p.0 p.0.left p.2
          (sym c.is_two.ensures ∙ c.if-not-is_two.false)).next;
      none = λ e. absurd (omega (arith, e));
    })
