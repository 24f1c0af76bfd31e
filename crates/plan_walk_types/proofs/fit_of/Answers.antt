-- A record, or none.
use mathlib.Core.Path.{sym, ◌∙◌}
use native.Mathlib.Omega.{arith}
use Rattle.paper_table.specs.Types.{table_of}
use Rattle.plan_walk_types.proofs.FitLaws.{fit_yes, fit_no, fit_none}
use Rattle.plan_walk_types.proofs.fit_of.Goals as goal

pub returns-then-does_apply : goal.returns-then-does_apply
returns-then-does_apply c = let a = c.args in
    fit_yes (table_of a.t.now) a.k a.o (omega (arith, c.if-k-count_of.true, c.count_of.ensures, c.requires.0.count)) (sym c.if-does_apply.true ∙ c.does_apply.ensures)

pub returns-else-does_apply : goal.returns-else-does_apply
returns-else-does_apply c = let a = c.args in
    fit_no (table_of a.t.now) a.k a.o (omega (arith, c.if-k-count_of.true, c.count_of.ensures, c.requires.0.count)) (sym c.if-does_apply.false ∙ c.does_apply.ensures)

pub returns-else-k-count_of : goal.returns-else-k-count_of
returns-else-k-count_of c = let a = c.args in
    fit_none (table_of a.t.now) a.k a.o (omega (arith, c.if-k-count_of.false, c.count_of.ensures, c.requires.0.count))
