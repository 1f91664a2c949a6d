-- True is answered only past the built-in table. Assumes nothing.
use Rattle.std.proofs.Common.{arith}
use Rattle.md_runs.proofs.Laws.Runs.{untrue}
use Rattle.md_runs.proofs.runs_on.Goals as goal

pub returns-then-p-lt-BUILTIN_END : goal.returns-then-p-lt-BUILTIN_END
returns-then-p-lt-BUILTIN_END c = λ e. untrue e

pub overflow_add-i : goal.overflow_add-i
overflow_add-i c = let asked = c.requires in omega (arith, asked.0, asked.1)

pub returns-then-text-i : goal.returns-then-text-i
returns-then-text-i c = λ e. untrue e

pub overflow_add-q : goal.overflow_add-q
overflow_add-q c = let asked = c.requires in omega (arith, asked.0, asked.1)

pub first_of-requires : goal.first_of-requires
first_of-requires c =
    let asked = c.requires in
    asked.2 c.if-p-lt-BUILTIN_END.false

pub last_of-requires : goal.last_of-requires
last_of-requires c =
    let asked = c.requires in
    asked.2 c.if-p-lt-BUILTIN_END.false

pub returns : goal.returns
returns c = λ e. c.if-p-lt-BUILTIN_END.false
