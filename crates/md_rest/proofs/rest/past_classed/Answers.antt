-- The built-in table has the character, or its record holds it and those passed behind it, or it has no class. Assumes nothing.
use native.Mathlib.Omega.{arith}
use Rattle.md_rest.proofs.Loops.Rest.{step_builtin, step_none, step_held}
use Rattle.md_rest.proofs.rest.past_classed.Goals as goal

pub bounds-text-i : goal.bounds-text-i
bounds-text-i c = omega (arith, c.requires.1, c.requires.2)

pub overflow_add-result : goal.overflow_add-result
overflow_add-result c =
    let at_pre = c.requires in
    omega (arith, at_pre.1)

pub returns-then-p-lt-BUILTIN_END : goal.returns-then-p-lt-BUILTIN_END
returns-then-p-lt-BUILTIN_END c =
    let at_pre = c.requires in
    step_builtin _ _ _ _ at_pre.1 at_pre.2 c.if-p-lt-BUILTIN_END.true

pub overflow_add-i : goal.overflow_add-i
overflow_add-i c =
    let at_pre = c.requires in
    omega (arith, at_pre.1)

pub past_within-requires : goal.past_within-requires
past_within-requires c =
    let at_pre = c.requires in
    (omega (arith, at_pre.1), at_pre.2)

pub returns-then-at-classes : goal.returns-then-at-classes
returns-then-at-classes c =
    let at_pre = c.requires in
    let at_held_near = c.held_near-at in
    step_held _ _ _ _ at_pre.1 at_pre.2 at_pre.0 _ at_held_near.ensures c.if-at-classes.true _
    (rw (c.first_of.ensures, c.last_of.ensures) at c.past_within.ensures)

pub returns : goal.returns
returns c =
    let at_pre = c.requires in
    step_none _ _ _ _ at_pre.1 at_pre.2 c.if-p-lt-BUILTIN_END.false _ c.held_near-at.ensures c.if-at-classes.false
