use mathlib.Core.Path.{refl, sym}
use Prim.Native.Nat.{ℕ}
use native.Mathlib.Nat.{le_of_eq}
use lib.Seq.{length-take-le}
use Rattle.paper_plan.specs.PlanNumbers.{plan_size}
use Rattle.paper_plan.specs.PlanCalls.{short_report}
use Rattle.plan_answer.proofs.PlanLaws.{sizes_kept, sizes_unmet, planned_beyond}
use Rattle.plan_answer.proofs.answer.Goals as goal

pub returns-then-report-lt-REPORT_SIZE : goal.returns-then-report-lt-REPORT_SIZE
returns-then-report-lt-REPORT_SIZE c = short_report c.if-report-lt-REPORT_SIZE.true refl refl

pub slice_bounds-plan_sized-end : goal.slice_bounds-plan_sized-end
slice_bounds-plan_sized-end c = (sizes_kept c.sizes_met-s.ensures c.in-Ok.is).0

pub slice_bounds-plan_sized-end-in-Ok : goal.slice_bounds-plan_sized-end-in-Ok
slice_bounds-plan_sized-end-in-Ok c = sym (length-take-le {A = ℕ} plan_size c.args.plan.now (sizes_kept c.sizes_met-s.ensures c.in-Ok.is).0)

pub plan_sized-requires : goal.plan_sized-requires
plan_sized-requires c = let k = sizes_kept c.sizes_met-s.ensures c.in-Ok.is in let size = length-take-le {A = ℕ} plan_size c.args.plan.now k.0 in ((c.if-report-lt-REPORT_SIZE.false, le_of_eq (sym size)), (k.1, k.2), size)

pub shape_of-plan : goal.shape_of-plan
shape_of-plan c = c.plan-1.given.1

pub shape_of-report-in-Ok : goal.shape_of-report-in-Ok
shape_of-report-in-Ok c = c.report-1.given

pub returns-in-Ok : goal.returns-in-Ok
returns-in-Ok c = let k = sizes_kept c.sizes_met-s.ensures c.in-Ok.is in planned_beyond c.args.table.now c.args.document.now c.args.name.now c.args.plan.now c.args.report.now _ _ _ (c.if-report-lt-REPORT_SIZE.false, k.0) (k.1, k.2) refl c.plan_sized.ensures

pub shape_of-report-in-Err : goal.shape_of-report-in-Err
shape_of-report-in-Err c = c.report-in-Err-1.given

pub returns-in-Err : goal.returns-in-Err
returns-in-Err c = let t = c.tell_refusal.ensures in sizes_unmet c.args.table.now c.args.document.now c.args.name.now c.args.plan.now c.args.report.now _ _ _ _ c.if-report-lt-REPORT_SIZE.false c.sizes_met-s.ensures c.in-Err.is t.0 t.1
