-- The rows of the lines up to `from` fill the first `at` places, and the rest is as it was. The room keeps its length. Assumes nothing.
use Rattle.md_utf8.proofs.Laws.Lendable.{lendable}
use native.Mathlib.Omega.{arith}
use Rattle.md_lines.proofs.Loops.Filling.{filling_start, filling_room, filling_small, filling_more, filling_end}
use borrow.Author.Rules.{rules}
use Rattle.md_lines.proofs.rows.put_rows.Goals as goal

pub table-table-requires : goal.table-table-requires
table-table-requires c = tt

pub loop-from-init : goal.loop-from-init
loop-from-init c =
    let at_pre = c.requires in
    (filling_start _ _ _ _ _ at_pre.2, search rules)

pub put_line-requires : goal.put_line-requires
put_line-requires c =
    let at_table = c.table-table in
    let at_loop = c.loop-from in
    let ended = c.end_of_line-end in
    let turn = c.loop-from-test in
    let entry = c.requires in (
      lendable _ _ _ _ entry.1 at_table.ensures,
      omega (arith, at_loop.invariant.1),
      filling_room _ _ _ _ _ _ _ _ at_loop.invariant.0 _ turn.true ended.ensures,
    )

pub overflow_add-from : goal.overflow_add-from
overflow_add-from c =
    let ended = c.end_of_line-end in
    let entry = c.requires in
    omega (arith, ended.ensures.inside, entry.0)

pub overflow_add-at : goal.overflow_add-at
overflow_add-at c =
    let ended = c.end_of_line-end in
    let turn = c.loop-from-test in
    let entry = c.requires in
    let at_loop = c.loop-from in
    let small = filling_small _ _ _ _ _ _ _ _ at_loop.invariant.0 _ turn.true ended.ensures entry.0 in
    omega (arith, small)

pub loop-from-smaller : goal.loop-from-smaller
loop-from-smaller c =
    let ended = c.end_of_line-end in
    let turn = c.loop-from-test in
    omega (arith, ended.ensures.begins, turn.true)

pub loop-from-preserved : goal.loop-from-preserved
loop-from-preserved c =
    let ended = c.end_of_line-end in
    let turn = c.loop-from-test in
    let at_loop = c.loop-from in (
      filling_more _ _ _ _ _ _ _ _ at_loop.invariant.0 _ turn.true ended.ensures _ c.put_line.ensures,
      search rules,
    )

pub shape_of-out : goal.shape_of-out
shape_of-out c = c.loop-from.invariant.0.same

pub returns : goal.returns
returns c = filling_end _ _ _ _ _ _ _ _ c.loop-from.invariant.0 c.loop-from-test.false
