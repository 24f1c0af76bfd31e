-- Another name, a boolean, or a variable.
use mathlib.Core.Path.{sym, ◌∙◌}
use native.Mathlib.Omega.{arith}
use Rattle.query_rows.specs.Rowed.{doc_of}
use Rattle.query_rows.proofs.RowsIn.{rows_count, rowed_sized}
use Rattle.query_rule_9.proofs.DirectiveLaws.{if_other, if_boolean, if_variable}
use Rattle.query_rule_9.proofs.is_if.Goals as goal

pub returns-then-not-is_called : goal.returns-then-not-is_called
returns-then-not-is_called c = let a = c.args in
    if_other (doc_of a.s.now a.rows.now a.n) a.a (sym c.is_called.ensures ∙ c.if-not-is_called.true)

pub first_below-requires : goal.first_below-requires
first_below-requires c = let p = c.requires in
    (rowed_sized p.0, p.1, p.2)

pub returns-then-first_below-n : goal.returns-then-first_below-n
returns-then-first_below-n c = let a = c.args in
    if_boolean (doc_of a.s.now a.rows.now a.n) a.a (sym c.is_called.ensures ∙ c.if-not-is_called.false) (omega (arith, c.if-first_below-n.true, c.first_below.ensures, rows_count a.rows.now a.n))

pub first_below-requires-2 : goal.first_below-requires-2
first_below-requires-2 c = let p = c.requires in
    (rowed_sized p.0, p.1, p.2)

pub returns : goal.returns
returns c = let a = c.args in
    rw c.first_below-2.ensures (if_variable (doc_of a.s.now a.rows.now a.n) a.a (sym c.is_called.ensures ∙ c.if-not-is_called.false) (omega (arith, c.if-first_below-n.false, c.first_below.ensures, rows_count a.rows.now a.n)) a.n (rows_count a.rows.now a.n))
