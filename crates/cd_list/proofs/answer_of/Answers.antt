-- The code is the definition, case by case. Assumes nothing.
use Rattle.cd_list.specs.Inner.Lent.{answer_of}
use Rattle.cd_list.proofs.answer_of.Goals as goal

pub returns-in-Ok : goal.returns-in-Ok
unfolding answer_of
returns-in-Ok c = rw c.in-Ok.is

pub returns-in-Err : goal.returns-in-Err
unfolding answer_of
returns-in-Err c = rw c.in-Err.is (cc)
