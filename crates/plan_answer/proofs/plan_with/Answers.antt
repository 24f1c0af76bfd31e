use mathlib.Core.Path.{sym, ◌∙◌}
use mathlib.Core.List.{[], ◌++◌}
use Prim.Native.Nat.{ℕ}
use native.Mathlib.Omega.{arith}
use lib.ListN.{drop}
use lib.Seq.{length-take-le}
use Rattle.paper.specs.Numbers.{rows_size}
use Rattle.plan_answer.proofs.PlanLaws.{planned_stop, opened_asked, planned_opened}
use Rattle.plan_answer.proofs.plan_with.Goals as goal

pub slice_bounds-open-end : goal.slice_bounds-open-end
slice_bounds-open-end c = omega (arith, c.requires.2)

pub slice_bounds-open-end-2 : goal.slice_bounds-open-end-2
slice_bounds-open-end-2 c = sym (length-take-le {A = ℕ} rows_size c.args.plan.now (omega (arith, c.requires.2)))

pub open-opened-requires : goal.open-opened-requires
open-opened-requires c = (c.requires.1, c.requires.3, length-take-le {A = ℕ} rows_size c.args.plan.now (omega (arith, c.requires.2)))

pub clear-requires : goal.clear-requires
clear-requires c = omega arith

pub tell_stop-requires : goal.tell_stop-requires
tell_stop-requires c = c.requires.0.0

pub shape_of-book-in-Err : goal.shape_of-book-in-Err
shape_of-book-in-Err c = c.book-1.given

pub shape_of-plan-in-Err : goal.shape_of-plan-in-Err
shape_of-plan-in-Err c = c.plan-in-Err-1.given ∙ c.plan-1.given.1

pub shape_of-report-in-Err : goal.shape_of-report-in-Err
shape_of-report-in-Err c = c.tell_stop.auto.report

pub returns-in-Err : goal.returns-in-Err
returns-in-Err c = planned_stop c.args.table.now c.args.document.now c.args.name.now c.args.plan.now c.args.report.now _ _ c.requires.0 c.requires.1 c.open-opened.new.rows c.open-opened.new.book (c.open-opened.new.rows ++ drop rows_size c.args.plan.now) _ _ _ c.open-opened.ensures c.in-Err.is c.requires.2 (c.plan-1.given.1 ∙ c.requires.2) c.clear.ensures c.tell_stop.ensures

pub plan_opened-requires : goal.plan_opened-requires
plan_opened-requires c = (opened_asked c.args.table.now c.args.document.now c.args.name.now c.args.plan.now c.args.report.now [] [] c.requires.0 c.requires.1 _ _ _ _ c.open-opened.ensures c.in-Ok.is, c.plan-1.given.1 ∙ c.requires.2, c.requires.0.0)

pub shape_of-book-in-Ok : goal.shape_of-book-in-Ok
shape_of-book-in-Ok c = c.book-1.given

pub shape_of-plan-in-Ok : goal.shape_of-plan-in-Ok
shape_of-plan-in-Ok c = c.plan_opened.auto.plan ∙ c.plan-1.given.1

pub shape_of-report-in-Ok : goal.shape_of-report-in-Ok
shape_of-report-in-Ok c = c.plan_opened.auto.report

pub returns-in-Ok : goal.returns-in-Ok
returns-in-Ok c = planned_opened c.args.table.now c.args.document.now c.args.name.now c.args.plan.now c.args.report.now _ _ c.requires.0 c.requires.1 _ _ _ _ _ c.open-opened.ensures c.in-Ok.is c.requires.2 c.plan_opened.ensures
