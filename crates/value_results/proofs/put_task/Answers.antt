-- `value_results::put_task` meets its contract, by the task.
use mathlib.Core.Path.{subst}
use Rattle.query_rows.specs.Rowed.{doc_of}
use Rattle.value_results.specs.Results.{Serves}
use Rattle.value_results.proofs.ResultLaws.{by_task}
use Rattle.value_results.proofs.put_task.Goals as goal

pub put_arguments-requires : goal.put_arguments-requires
put_arguments-requires c = let a = c.args in
    let p = c.requires in
    (p.0, p.1, subst (Serves a.t.now (doc_of a.s.now a.rows.now a.n)) c.in-OfField.is p.2)

pub returns-in-OfOperation : goal.returns-in-OfOperation
returns-in-OfOperation c = let a = c.args in
    by_task a.t.now (doc_of a.s.now a.rows.now a.n) a.op (doc_of a.s1.now a.rows1.now a.n1) _ _ c.in-OfOperation.is c.put_variables.ensures

pub returns-in-OfField : goal.returns-in-OfField
returns-in-OfField c = let a = c.args in
    by_task a.t.now (doc_of a.s.now a.rows.now a.n) a.op (doc_of a.s1.now a.rows1.now a.n1) _ _ c.in-OfField.is c.put_arguments.ensures
