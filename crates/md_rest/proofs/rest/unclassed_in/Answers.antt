-- A block of the built-in table's characters has no other; any other block is walked. Assumes nothing.
use Rattle.md_rest.proofs.Loops.Rest.{walked_builtin}
use Rattle.md_rest.proofs.rest.unclassed_in.Goals as goal

pub all_builtin-requires : goal.all_builtin-requires
all_builtin-requires c = c.requires.2

pub returns-then-all_builtin : goal.returns-then-all_builtin
returns-then-all_builtin c =
    let at_pre = c.requires in
    walked_builtin _ _ _ _ at_pre.1 (c.all_builtin.ensures.each c.if-all_builtin.true)

pub unclassed_within-requires : goal.unclassed_within-requires
unclassed_within-requires c =
    let at_pre = c.requires in
    (at_pre.0, at_pre.1, at_pre.2)

pub returns : goal.returns
returns c = c.unclassed_within.ensures
