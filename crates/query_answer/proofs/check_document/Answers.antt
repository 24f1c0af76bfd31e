use Rattle.query_answer.proofs.DocumentLaws.{done_taken, judged_told, text_refused}
use Rattle.query_answer.proofs.check_document.Goals as goal

pub first_break-q-requires : goal.first_break-q-requires
first_break-q-requires c = let p = c.requires in
    (p.1.1, p.3, p.4, (done_taken _ _ _ _ _ p.1.0 p.2 c.parse-r.ensures c.in-Ok.is).rowed)

pub returns-in-Ok : goal.returns-in-Ok
returns-in-Ok c = let p = c.requires in
    judged_told _ _ _ _ _ p.0 p.1 p.2 p.3 _ c.parse-r.ensures _ c.in-Ok.is _ _ _ _ c.first_break-q.ensures c.tell_judged.ensures

pub returns-in-Err : goal.returns-in-Err
returns-in-Err c = let p = c.requires in
    let t = c.tell_refusal.ensures in
    text_refused _ _ _ _ _ p.0 p.1 p.2 p.3 _ c.parse-r.ensures _ _ _ c.in-Err.is t.0 t.1
