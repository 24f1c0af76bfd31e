-- A walk over the definitions.
use mathlib.Core.Path.{◌∙◌}
use native.Mathlib.Omega.{arith}
use Rattle.paper_table.specs.Types.{table_of}
use Rattle.table_judge.proofs.BreakLaws.{order_start, order_end, order_here, order_on, not_accepted}
use borrow.Enum.Refused.{opened}
use Rattle.table_judge.proofs.first_break.Goals as goal

pub count_of-count-requires : goal.count_of-count-requires
count_of-count-requires c = c.requires.0.booked.indexed.held.cells

pub loop-i-init : goal.loop-i-init
loop-i-init c = (order_start (table_of c.args.t.now), c.requires.2)

pub definition_breaks-r-requires : goal.definition_breaks-r-requires
definition_breaks-r-requires c = (c.requires.0, c.requires.1, omega (arith, c.loop-i-test.true, c.count_of-count.ensures), c.loop-i.invariant.1)

pub returns-in_default : goal.returns-in_default
returns-in_default c = order_here (table_of c.args.t.now) c.loop-i.i c.loop-i.invariant.0 (omega (arith, c.loop-i-test.true, c.count_of-count.ensures, c.requires.0.booked.count)) c.definition_breaks-r.result c.definition_breaks-r.ensures.is (not_accepted c.definition_breaks-r.result (opened c.in_default.in_default-own.keys2))

pub loop-i-preserved : goal.loop-i-preserved
loop-i-preserved c = (order_on (table_of c.args.t.now) c.loop-i.i c.loop-i.invariant.0 (omega (arith, c.loop-i-test.true, c.count_of-count.ensures, c.requires.0.booked.count)) c.definition_breaks-r.result c.definition_breaks-r.ensures.is c.in-Accepted.is, c.definition_breaks-r.ensures.cells)

pub query_break-requires : goal.query_break-requires
query_break-requires c = c.requires.0.booked

pub returns : goal.returns
returns c = c.query_break.ensures ∙ order_end (table_of c.args.t.now) c.loop-i.i c.loop-i.invariant.0 (omega (arith, c.loop-i-test.false, c.count_of-count.ensures, c.requires.0.booked.count))
