-- A byte below 80 stands for itself, any other for its entry. Assumes nothing.
use Prim.Native.Nat.{◌-◌}
use mathlib.Core.Path.{sym, ◌∙◌}
use native.Mathlib.Omega.{arith}
use Rattle.page_meaning.specs.Page.{UNUSED, FIRST_HIGH}
use Rattle.page_meaning.proofs.Laws.Lists.{get_d_any}
use Rattle.page_meaning.proofs.Laws.Page.{point_low, point_high}
use Rattle.page.proofs.points.point_of.Goals as goal

pub returns-then-b-lt-FIRST_HIGH : goal.returns-then-b-lt-FIRST_HIGH
returns-then-b-lt-FIRST_HIGH c = sym (point_low _ _ c.if-b-lt-FIRST_HIGH.true)

pub returns : goal.returns
returns c =
    c.wide.ensures.0 ∙ get_d_any c.args.page.now (c.args.b - FIRST_HIGH) 0 UNUSED (omega arith) ∙ sym (point_high _ _ c.if-b-lt-FIRST_HIGH.false)
