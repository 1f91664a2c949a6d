-- Below the size it is the number, else what is above the size, which is below it. Assumes nothing.
use mathlib.Core.Path.{sym, ◌∙◌}
use native.Mathlib.Nat.{mod-eq_of_lt, mod-eq-sub-mod}
use native.Mathlib.Omega.{arith}
use Rattle.ring.proofs.size.wrapped.Goals as goal

pub returns-then-a-slots : goal.returns-then-a-slots
returns-then-a-slots c = sym (mod-eq_of_lt c.if-a-slots.true)

pub returns : goal.returns
returns c = sym (mod-eq-sub-mod c.if-a-slots.false ∙ mod-eq_of_lt (omega (arith, c.requires, c.if-a-slots.false)))
