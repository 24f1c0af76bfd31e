-- `value_answers::read_with` meets its contract: the text is refused, or its rows are taken.
use mathlib.Core.Path.{sym}
use Rattle.query_rows.specs.Rowed.{doc_of}
use Rattle.query_rows.proofs.Rooms.{room_few, room_many}
use Rattle.value_answers.proofs.EndLaws.{text_taken, text_unread, text_read}
use Rattle.value_answers.proofs.read_with.Goals as goal

pub coerce_in-requires : goal.coerce_in-requires
coerce_in-requires c = let a = c.args in
    let p = c.requires in
    (p.0, p.1, text_taken a.t.now (doc_of a.s.now a.rows.now a.n) a.op a.task a.s1.now a.rows1.now _ _ c.variables_text-r.ensures _ p.3 p.4 c.in-Ok.is, p.2, p.5, sym (room_few _ c.if-n1-le-FEW_ROWS.true))

pub returns-then-n1-le-FEW_ROWS : goal.returns-then-n1-le-FEW_ROWS
returns-then-n1-le-FEW_ROWS c = let a = c.args in
    let p = c.requires in
    text_read a.t.now (doc_of a.s.now a.rows.now a.n) a.op a.task a.s1.now _ _ _ _ (text_taken a.t.now (doc_of a.s.now a.rows.now a.n) a.op a.task a.s1.now a.rows1.now _ _ c.variables_text-r.ensures _ p.3 p.4 c.in-Ok.is) c.coerce_in.ensures

pub coerce_in-requires-in-Ok : goal.coerce_in-requires-in-Ok
coerce_in-requires-in-Ok c = let a = c.args in
    let p = c.requires in
    (p.0, p.1, text_taken a.t.now (doc_of a.s.now a.rows.now a.n) a.op a.task a.s1.now a.rows1.now _ _ c.variables_text-r.ensures _ p.3 p.4 c.in-Ok.is, p.2, p.5, sym (room_many _ c.if-n1-le-FEW_ROWS.false))

pub returns-else-n1-le-FEW_ROWS : goal.returns-else-n1-le-FEW_ROWS
returns-else-n1-le-FEW_ROWS c = let a = c.args in
    let p = c.requires in
    text_read a.t.now (doc_of a.s.now a.rows.now a.n) a.op a.task a.s1.now _ _ _ _ (text_taken a.t.now (doc_of a.s.now a.rows.now a.n) a.op a.task a.s1.now a.rows1.now _ _ c.variables_text-r.ensures _ p.3 p.4 c.in-Ok.is) c.coerce_in-in-Ok.ensures

pub returns-in-Err : goal.returns-in-Err
returns-in-Err c = let a = c.args in
    text_unread a.t.now (doc_of a.s.now a.rows.now a.n) a.op a.task a.s1.now a.rows1.now _ _ c.variables_text-r.ensures _ c.in-Err.is
