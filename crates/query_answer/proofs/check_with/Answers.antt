use Rattle.table_judge.proofs.BreakLaws.{not_accepted}
use mathlib.Core.Path.{sym, ◌∙◌}
use Rattle.query_answer.proofs.DocumentLaws.{table_refused}
use borrow.Enum.Refused.{opened}
use Rattle.query_answer.proofs.check_with.Goals as goal

pub returns-in_default : goal.returns-in_default
returns-in_default c = let p = c.requires in
    let t = c.tell_table.ensures in
    table_refused _ _ _ _ _ _ _ _ p.0 p.1 p.2 c.judge_with-a.ensures.is (not_accepted _ (opened c.in_default.in_default-own.keys2)) c.clear.ensures t.0 t.1

pub check_document-requires : goal.check_document-requires
check_document-requires c = let p = c.requires in
    let w = c.judge_with-a.ensures in
    let a = c.in-Accepted.is in
    (p.0, p.1, p.2, sym w.is ∙ a, w.booked a)
