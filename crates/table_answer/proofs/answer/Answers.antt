-- `table_answer::answer` meets its contract: each way to its end is one case of `Checked`.
use mathlib.Core.Path.{refl}
use Rattle.paper_table.specs.TableCalls.{short_report}
use Rattle.call_buffers.proofs.SizeLaws.{sizes_kept}
use Rattle.table_answer.proofs.CheckedLaws.{checked_unmet, checked_judged}
use Rattle.table_answer.proofs.answer.Goals as goal

pub returns-then-report-lt-REPORT_SIZE : goal.returns-then-report-lt-REPORT_SIZE
returns-then-report-lt-REPORT_SIZE c = short_report c.if-report-lt-REPORT_SIZE.true refl

pub judge_table-a-requires : goal.judge_table-a-requires
judge_table-a-requires c = (sizes_kept c.sizes_met-s.ensures c.in-Ok.is).2

pub returns-in-Ok : goal.returns-in-Ok
returns-in-Ok c = let k = sizes_kept c.sizes_met-s.ensures c.in-Ok.is in
    let t = c.tell_table.ensures in
    checked_judged _ _ _ _ c.if-report-lt-REPORT_SIZE.false _ k.2 c.judge_table-a.ensures t.0 t.1

pub returns-in-Err : goal.returns-in-Err
returns-in-Err c = let t = c.tell_refusal.ensures in
    checked_unmet _ _ _ _ c.if-report-lt-REPORT_SIZE.false _ _ c.sizes_met-s.ensures c.in-Err.is t.0 t.1
