-- What the built-in table has is passed; then all is known, or the rest is walked. Assumes nothing.
use mathlib.Core.Path.{◌∙◌}
use native.Mathlib.Omega.{arith}
use Rattle.md_rest.proofs.Loops.Whole.{rest_passed, rest_known}
use Rattle.md_rest.proofs.whole.unclassed_rest.Goals as goal

pub overflow_add-from : goal.overflow_add-from
overflow_add-from c = omega (arith, c.requires.1, c.requires.2)

pub unclassed_from-requires : goal.unclassed_from-requires
unclassed_from-requires c =
    let at_pre = c.requires in
    (at_pre.0, at_pre.1, at_pre.2)

pub returns-then-text-from : goal.returns-then-text-from
returns-then-text-from c = c.unclassed_from.ensures

pub past_builtin-i-requires : goal.past_builtin-i-requires
past_builtin-i-requires c =
    let at_pre = c.requires in
    (at_pre.1, at_pre.2)

pub all_known-requires : goal.all_known-requires
all_known-requires c =
    let at_pre = c.requires in
    (at_pre.0, c.past_builtin-i.ensures.ends, at_pre.1)

pub overflow_add-result : goal.overflow_add-result
overflow_add-result c =
    let at_pre = c.requires in
    omega (arith, at_pre.1)

pub returns-then-all_known : goal.returns-then-all_known
returns-then-all_known c = rest_known _ _ _ _ c.past_builtin-i.ensures _ c.all_known.ensures c.if-all_known.true

pub unclassed_from-requires-2 : goal.unclassed_from-requires-2
unclassed_from-requires-2 c =
    let at_pre = c.requires in
    (at_pre.0, at_pre.1, c.past_builtin-i.ensures.ends)

pub returns : goal.returns
returns c = c.unclassed_from-2.ensures ∙ rest_passed _ _ _ _ c.past_builtin-i.ensures
