use Rattle.plan_tests.proofs.TableLaws.{Filling}
use Rattle.plan_tests.proofs.fill_table.Given as goal

abbrev pub invariant-loop-i : goal.invariant-loop-i
invariant-loop-i l = Filling l.t l.s l.rows l.n l.o l.initial.cells l.cells l.i
