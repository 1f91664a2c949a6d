-- The four cases of two answers. Assumes nothing.
use Rattle.md_chooser_meaning.proofs.Laws.Choose.{judged_first, judged_second, lower_second, else_first}
use Rattle.md_chooser.proofs.judge.Goals as goal

pub returns-in-Err : goal.returns-in-Err
returns-in-Err c = judged_first _ _ _ c.in-Err.is

pub returns-in-Err-second : goal.returns-in-Err-second
returns-in-Err-second c = judged_second _ _ _ _ c.in-Ok.is c.in-Err-second.is

pub returns-then-b-a : goal.returns-then-b-a
returns-then-b-a c =
    lower_second _ _ _ _ c.in-Ok.is c.in-Ok-second.is c.if-b-a.true

pub returns-else-b-a : goal.returns-else-b-a
returns-else-b-a c =
    else_first _ _ _ _ c.in-Ok.is c.in-Ok-second.is c.if-b-a.false
