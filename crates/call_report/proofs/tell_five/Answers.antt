-- `call_report::tell_five` meets its contract: eight stores are the whole report.
use native.Mathlib.Omega.{arith}
use lib.ListN.{length-set}
use Rattle.call_report.proofs.ReportLaws.{told}
use Rattle.call_report.proofs.tell_five.Goals as goal

pub bounds-report-1 : goal.bounds-report-1
bounds-report-1 c = simp length-set (omega arith)

pub bounds-report-2 : goal.bounds-report-2
bounds-report-2 c = simp length-set (omega arith)

pub bounds-report-3 : goal.bounds-report-3
bounds-report-3 c = simp length-set (omega arith)

pub bounds-report-4 : goal.bounds-report-4
bounds-report-4 c = simp length-set (omega arith)

pub bounds-report-5 : goal.bounds-report-5
bounds-report-5 c = simp length-set (omega arith)

pub bounds-report-6 : goal.bounds-report-6
bounds-report-6 c = simp length-set (omega arith)

pub returns : goal.returns
returns c = let a = c.args in told a.report.now a.number a.a a.b a.c a.d a.e c.requires
