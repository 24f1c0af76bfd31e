-- `call_endings::tell_read` meets its contract, case by case.
use Rattle.call_endings.proofs.EndLaws.{told_done, told_refused}
use Rattle.call_endings.proofs.tell_read.Goals as goal

pub returns-in-Ok : goal.returns-in-Ok
returns-in-Ok c = told_done _ _ _ _ c.in-Ok.is c.tell.ensures

pub returns-in-Err : goal.returns-in-Err
returns-in-Err c = told_refused _ _ _ _ _ c.in-Err.is c.tell_refusal.ensures
