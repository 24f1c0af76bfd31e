-- `text_cursor::located` meets its contract.
use native.Mathlib.Omega.{arith}
use Rattle.text_cursor.proofs.ReaderLaws.{within_token, within_bad}
use Rattle.text_cursor.proofs.located.Goals as goal

pub overflow_cast-result : goal.overflow_cast-result
overflow_cast-result c = omega (arith, within_token _ _ _ _ c.requires c.in-Ok.is)

pub overflow_cast-result-in-Err : goal.overflow_cast-result-in-Err
overflow_cast-result-in-Err c = omega (arith, within_bad _ _ c.requires c.in-Err.is)

pub returns-in-Ok : goal.returns-in-Ok
returns-in-Ok c = rw c.in-Ok.is

pub returns-in-Err : goal.returns-in-Err
returns-in-Err c = rw c.in-Err.is
