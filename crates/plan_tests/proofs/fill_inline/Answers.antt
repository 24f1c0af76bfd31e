use mathlib.Core.Path.{sym, ap, ◌∙◌}
use native.Mathlib.Omega.{arith}
use mathlib.Core.Option.{Option}
use Rattle.paper.specs.Rows.{Row}
use Rattle.paper_table.specs.Types.{table_of}
use Rattle.query_rows.specs.Rowed.{doc_of}
use Rattle.paper_plan.specs.Selecting.{type_if}
use Rattle.plan_tests.specs.Right.{inline_row}
use Rattle.plan_tests.proofs.RightLaws.{inline_written}
use Rattle.plan_tests.proofs.TableLaws.{condition_none, condition_some}
use Rattle.paper_query.specs.Constructs.{name_of}
use Rattle.plan_tests.proofs.FewLaws.{type_few}
use Rattle.plan_tests.proofs.fill_inline.Goals as goal

pub put_head-requires : goal.put_head-requires
put_head-requires c = (c.requires.6, c.requires.5, omega (arith, c.requires.3, c.requires.1.few), omega (arith, c.requires.4))

pub returns-then-n-j : goal.returns-then-n-j
returns-then-n-j c = c.put_head.ensures ∙ sym (ap (λ (u : Option Row). inline_row c.args.row.now c.args.m c.args.above c.args.i (type_if (table_of c.args.t.now) (doc_of c.args.s.now c.args.rows.now c.args.n) u)) (condition_none c.args.s.now c.args.rows.now c.args.n c.args.i _ c.first_below-j.ensures c.if-n-j.true))

pub put_test-requires : goal.put_test-requires
put_test-requires c = (c.requires.6, omega (arith, c.requires.4), omega (arith, c.type_named-type_number.ensures, type_few c.args.t.now c.args.book.now c.requires.0 (name_of (doc_of c.args.s.now c.args.rows.now c.args.n) c.first_below-j.result)))

pub put_head-requires-2 : goal.put_head-requires-2
put_head-requires-2 c = (omega (arith, c.row-2-1.given, c.requires.6), c.requires.5, omega (arith, c.requires.3, c.requires.1.few), omega (arith, c.requires.4))

pub returns : goal.returns
returns c = c.put_head-2.ensures ∙ inline_written c.args.row.now _ c.args.m c.args.above c.args.i _ _ c.type_named-type_number.ensures c.put_test.ensures ∙ sym (ap (λ (u : Option Row). inline_row c.args.row.now c.args.m c.args.above c.args.i (type_if (table_of c.args.t.now) (doc_of c.args.s.now c.args.rows.now c.args.n) u)) (condition_some c.args.s.now c.args.rows.now c.args.n c.args.i _ c.first_below-j.ensures (omega (arith, c.if-n-j.false))))
