-- `value_answers::end_with` meets its contract: what stops the opening, or what comes of the opened operation.
use mathlib.Core.Path.{sym, subst}
use Rattle.query_rows.proofs.Rooms.{room_few, room_many}
use Rattle.query_opening.specs.Opens.{Opens}
use Rattle.value_answers.proofs.EndLaws.{not_opened, ready_standing, open_end}
use Rattle.value_answers.proofs.end_with.Goals as goal

pub returns-in-Err : goal.returns-in-Err
returns-in-Err c = let a = c.args in
    not_opened a.table.now a.document.now a.operation.now a.variables.now c.open-opened.new.rows c.open-opened.new.book a.call _ (subst (Opens a.table.now a.document.now a.operation.now _ _) c.in-Err.is c.open-opened.ensures)

pub end_in-requires : goal.end_in-requires
end_in-requires c = let a = c.args in
    let p = c.requires in
    (ready_standing _ _ _ a.variables.now _ _ (subst (Opens a.table.now a.document.now a.operation.now _ _) c.in-Ok.is c.open-opened.ensures), p.0.1, p.3, sym (room_few _ c.if-n-le-FEW_ROWS.true))

pub returns-then-n-le-FEW_ROWS : goal.returns-then-n-le-FEW_ROWS
returns-then-n-le-FEW_ROWS c = let a = c.args in
    let r = subst (Opens a.table.now a.document.now a.operation.now _ _) c.in-Ok.is c.open-opened.ensures in
    open_end r.opened a.variables.now a.call _ c.end_in.ensures

pub end_in-requires-2 : goal.end_in-requires-2
end_in-requires-2 c = let a = c.args in
    let p = c.requires in
    (ready_standing _ _ _ a.variables.now _ _ (subst (Opens a.table.now a.document.now a.operation.now _ _) c.in-Ok.is c.open-opened.ensures), p.0.1, p.3, sym (room_many _ c.if-n-le-FEW_ROWS.false))

pub returns : goal.returns
returns c = let a = c.args in
    let r = subst (Opens a.table.now a.document.now a.operation.now _ _) c.in-Ok.is c.open-opened.ensures in
    open_end r.opened a.variables.now a.call _ c.end_in-2.ensures
