use mathlib.Core.Path.{◌∙◌}
use native.Mathlib.Omega.{arith}
use Rattle.table_book.specs.Book.{part}
use Rattle.query_rows.proofs.RowsIn.{rowed_sized}
use Rattle.plan_conditions.proofs.ConditionLaws.{if_absent, argument_most, if_none, if_some}
use Rattle.plan_conditions.proofs.condition.Goals as goal

pub returns-then-n-k : goal.returns-then-n-k
returns-then-n-k c = let a = c.args in
    if_absent a.s.now a.rows.now a.n a.o (part a.t.now a.at a.l) a.i c.directive_on-k.result c.directive_on-k.ensures c.if-n-k.true

pub value_below-v-requires : goal.value_below-v-requires
value_below-v-requires c = let a = c.args in
    let p = c.requires in
    (rowed_sized p.0, p.1, argument_most a.s.now a.rows.now a.n a.o (part a.t.now a.at a.l) a.i c.directive_on-k.result c.directive_on-k.ensures (omega (arith, c.if-n-k.false)) _ c.first_below-a.ensures)

pub returns-then-n-v : goal.returns-then-n-v
returns-then-n-v c = let a = c.args in
    if_none a.s.now a.rows.now a.n a.o (part a.t.now a.at a.l) a.i c.directive_on-k.result c.directive_on-k.ensures (omega (arith, c.if-n-k.false)) _ c.first_below-a.ensures _ c.value_below-v.ensures c.if-n-v.true

pub returns : goal.returns
returns c = let a = c.args in
    c.value_of.ensures ∙ if_some a.s.now a.rows.now a.n a.o (part a.t.now a.at a.l) a.i c.directive_on-k.result c.directive_on-k.ensures (omega (arith, c.if-n-k.false)) c.first_below-a.result c.first_below-a.ensures c.value_below-v.result c.value_below-v.ensures (omega (arith, c.if-n-v.false))
