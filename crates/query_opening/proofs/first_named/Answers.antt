use mathlib.Core.Path.{sym, ◌∙◌}
use mathlib.Core.Bool.{Bool}
use native.Mathlib.Omega.{arith}
use Rattle.paper.specs.Numbers.{kind_operation}
use Rattle.paper.specs.Rows.{Row}
use Rattle.query_rows.specs.Rowed.{rows_in, doc_of}
use Rattle.query_siblings.specs.Alike.{kind_called}
use Rattle.query_links.proofs.Nexts.{next_all}
use Rattle.query_opening.proofs.OpeningLaws.{seeks_start, seeks_here, seeks_on, seeks_end}
use Rattle.query_opening.proofs.first_named.Goals as goal

pub loop-i-init : goal.loop-i-init
loop-i-init c = let a = c.args in
    seeks_start a.rows.now a.n (kind_called (doc_of a.s.now a.rows.now a.n) kind_operation a.name.now) 0 (omega arith)

pub returns-then-is_operation_called : goal.returns-then-is_operation_called
returns-then-is_operation_called c = let a = c.args in
    let p : Row → Bool = kind_called (doc_of a.s.now a.rows.now a.n) kind_operation a.name.now in
    seeks_here a.rows.now a.n p 0 c.loop-i.i c.loop-i.invariant c.loop-i-test.true (sym c.is_operation_called.ensures ∙ c.if-is_operation_called.true) ∙ next_all p (rows_in a.rows.now a.n)

pub loop-i-preserved : goal.loop-i-preserved
loop-i-preserved c = let a = c.args in
    let p : Row → Bool = kind_called (doc_of a.s.now a.rows.now a.n) kind_operation a.name.now in
    seeks_on a.rows.now a.n p 0 c.loop-i.i c.loop-i.invariant c.loop-i-test.true (sym c.is_operation_called.ensures ∙ c.if-is_operation_called.false)

pub returns : goal.returns
returns c = let a = c.args in
    let p : Row → Bool = kind_called (doc_of a.s.now a.rows.now a.n) kind_operation a.name.now in
    seeks_end a.rows.now a.n p 0 c.loop-i.i c.loop-i.invariant c.loop-i-test.false ∙ next_all p (rows_in a.rows.now a.n)
