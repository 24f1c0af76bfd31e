-- `value_answers::coerce_with` meets its contract: what is asked of both texts is true of texts that were read, and the call ends by what comes of the task.
use Rattle.value_answers.proofs.EndLaws.{asks_both, stands_few, task_ends}
use Rattle.value_answers.proofs.coerce_with.Goals as goal

pub put_task-o-requires : goal.put_task-o-requires
put_task-o-requires c = let a = c.args in
    let p = c.requires in
    (asks_both _ _ _ _ _ _ _ _ _ _ p.0 p.2 c.fill_pasts.ensures c.fill_pasts-2.ensures, stands_few a.t.now a.book.now _ _ _ _ _ a.op p.0 p.5 p.6, p.1)

pub returns : goal.returns
returns c = task_ends c.put_task-o.ensures c.ended.ensures
