use mathlib.Core.Path.{sym, ap, ◌∙◌}
use native.Mathlib.Omega.{arith}
use Rattle.paper_table.specs.Types.{table_of}
use Rattle.query_rows.specs.Rowed.{doc_of}
use Rattle.paper_plan.specs.Selecting.{type_on}
use Rattle.plan_tests.proofs.TableLaws.{condition_none, condition_some}
use Rattle.plan_tests.proofs.type_on.Goals as goal

pub returns-then-n-j : goal.returns-then-n-j
returns-then-n-j c = c.count_of.ensures ∙ c.requires.0.count ∙ sym (ap (type_on (table_of c.args.t.now) (doc_of c.args.s.now c.args.rows.now c.args.n)) (condition_none c.args.s.now c.args.rows.now c.args.n c.args.f _ c.first_below-j.ensures c.if-n-j.true))

pub returns : goal.returns
returns c = c.type_named.ensures ∙ sym (ap (type_on (table_of c.args.t.now) (doc_of c.args.s.now c.args.rows.now c.args.n)) (condition_some c.args.s.now c.args.rows.now c.args.n c.args.f _ c.first_below-j.ensures (omega (arith, c.if-n-j.false))))
