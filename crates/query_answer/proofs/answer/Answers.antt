use mathlib.Core.Path.{refl, sym}
use Prim.Native.Nat.{ℕ}
use native.Mathlib.Nat.{le_of_eq}
use lib.Seq.{length-take-le}
use Rattle.paper.specs.Numbers.{rows_size}
use Rattle.paper_query.specs.DocumentCalls.{short_report}
use Rattle.call_buffers.proofs.SizeLaws.{sizes_kept}
use Rattle.query_answer.proofs.BeyondLaws.{sizes_unmet, checked_beyond}
use Rattle.query_answer.proofs.answer.Goals as goal

pub returns-then-report-lt-REPORT_SIZE : goal.returns-then-report-lt-REPORT_SIZE
returns-then-report-lt-REPORT_SIZE c = short_report c.if-report-lt-REPORT_SIZE.true refl refl

pub slice_bounds-check-end : goal.slice_bounds-check-end
slice_bounds-check-end c = (sizes_kept c.sizes_met-s.ensures c.in-Ok.is).0

pub slice_bounds-check-end-in-Ok : goal.slice_bounds-check-end-in-Ok
slice_bounds-check-end-in-Ok c = sym (length-take-le {A = ℕ} rows_size c.args.rows.now (sizes_kept c.sizes_met-s.ensures c.in-Ok.is).0)

pub check-requires : goal.check-requires
check-requires c = let k = sizes_kept c.sizes_met-s.ensures c.in-Ok.is in
    let size = length-take-le {A = ℕ} rows_size c.args.rows.now k.0 in
    ((c.if-report-lt-REPORT_SIZE.false, le_of_eq (sym size)), (k.1, k.2), size)

pub returns-in-Ok : goal.returns-in-Ok
returns-in-Ok c = let k = sizes_kept c.sizes_met-s.ensures c.in-Ok.is in
    checked_beyond _ _ _ _ _ _ _ (c.if-report-lt-REPORT_SIZE.false, k.0) (k.1, k.2) refl c.check.ensures

pub returns-in-Err : goal.returns-in-Err
returns-in-Err c = let t = c.tell_refusal.ensures in
    sizes_unmet _ _ _ _ _ _ _ _ c.if-report-lt-REPORT_SIZE.false c.sizes_met-s.ensures c.in-Err.is t.0 t.1
