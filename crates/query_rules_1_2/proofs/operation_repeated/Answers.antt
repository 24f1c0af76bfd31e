-- Another kind, no name, or by the first operation of its name.
use mathlib.Core.Path.{sym, ◌∙◌}
use native.Mathlib.Omega.{arith}
use Rattle.query_rows.specs.Rowed.{doc_of}
use Rattle.query_rows.proofs.RowsIn.{rows_count, name_within}
use Rattle.query_rules_1_2.proofs.OperationLaws.{repeated_other, repeated_named}
use Rattle.query_rules_1_2.proofs.operation_repeated.Goals as goal

pub returns-then-kind_of-ne-KIND_OPERATION : goal.returns-then-kind_of-ne-KIND_OPERATION
returns-then-kind_of-ne-KIND_OPERATION c = let a = c.args in
    repeated_other (doc_of a.s.now a.rows.now a.n) a.i (λ q. c.if-kind_of-ne-KIND_OPERATION.true (c.kind_of.ensures ∙ q))

pub first_called-requires : goal.first_called-requires
first_called-requires c = let a = c.args in
    let p = c.requires in
    (p.0, p.1, omega arith, omega (arith, c.name_of-at.ensures, c.size_of-l.ensures, name_within a.s.now a.rows.now a.n p.0 a.i))

pub returns : goal.returns
returns c = let a = c.args in
    let e = c.name_of-at.ensures in
    let f = c.size_of-l.ensures in
    rw (c.first_called.ensures, e, f)
    (repeated_named (doc_of a.s.now a.rows.now a.n) a.i (sym c.kind_of.ensures ∙ c.if-kind_of-ne-KIND_OPERATION.false) (λ q. omega arith) (omega (arith, c.requires.2, rows_count a.rows.now a.n)))
