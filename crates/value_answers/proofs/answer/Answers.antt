-- `value_answers::answer` meets its contract: the sizes, and then what is told in a value of the fixed size.
use mathlib.Core.Path.{refl, sym}
use Prim.Native.Nat.{ℕ}
use lib.Seq.{length-take-le}
use Rattle.paper_values.specs.ValueNumbers.{most_coerced}
use Rattle.paper_values.specs.ValueCalls.{short_report}
use Rattle.value_answers.specs.Answers.{EndFor}
use Rattle.value_answers.proofs.ToldLaws.{sizes_kept, sizes_unmet, told_beyond}
use Rattle.value_answers.proofs.answer.Goals as goal

pub returns-then-report-lt-REPORT_SIZE : goal.returns-then-report-lt-REPORT_SIZE
returns-then-report-lt-REPORT_SIZE c = short_report c.if-report-lt-REPORT_SIZE.true refl refl

pub slice_bounds-tell_call-end : goal.slice_bounds-tell_call-end
slice_bounds-tell_call-end c = (sizes_kept c.sizes_met-s.ensures c.in-Ok.is).0

pub slice_bounds-tell_call-end-in-Ok : goal.slice_bounds-tell_call-end-in-Ok
slice_bounds-tell_call-end-in-Ok c = sym (length-take-le {A = ℕ} most_coerced c.args.value.now (sizes_kept c.sizes_met-s.ensures c.in-Ok.is).0)

pub tell_call-requires : goal.tell_call-requires
tell_call-requires c = let k = sizes_kept c.sizes_met-s.ensures c.in-Ok.is in
    ((k.1, k.2, k.3), c.if-report-lt-REPORT_SIZE.false, length-take-le {A = ℕ} most_coerced c.args.value.now k.0)

pub returns-in-Ok : goal.returns-in-Ok
returns-in-Ok c = let a = c.args in
    let k = sizes_kept c.sizes_met-s.ensures c.in-Ok.is in
    told_beyond (EndFor a.call a.table.now a.document.now a.operation.now a.variables.now) a.table.now a.document.now a.variables.now a.value.now a.report.now _ _ _ (c.if-report-lt-REPORT_SIZE.false, k.0) (k.1, k.2, k.3) refl c.tell_call.ensures

pub returns-in-Err : goal.returns-in-Err
returns-in-Err c = let a = c.args in
    let t = c.tell_refusal.ensures in
    sizes_unmet (EndFor a.call a.table.now a.document.now a.operation.now a.variables.now) a.table.now a.document.now a.variables.now a.value.now a.report.now _ _ _ _ c.if-report-lt-REPORT_SIZE.false c.sizes_met-s.ensures c.in-Err.is t.0 t.1
