-- Another kind, a name, or by the first operation and the next.
use mathlib.Core.Path.{sym, ◌∙◌}
use native.Mathlib.Omega.{arith}
use borrow.Author.Tests.{eq-eqb}
use Rattle.paper.specs.Numbers.{kind_operation}
use Rattle.query_rows.specs.Rowed.{doc_of}
use Rattle.query_rows.proofs.RowsIn.{rows_count}
use Rattle.query_links.proofs.ChainWalks.{kinds_first, kinds_after, kinds_room}
use Rattle.query_rules_1_2.proofs.OperationLaws.{unnamed_other, unnamed_named, unnamed_before, unnamed_after}
use Rattle.query_rules_1_2.proofs.operation_unnamed.Goals as goal

pub returns-then-kind_of-ne-KIND_OPERATION : goal.returns-then-kind_of-ne-KIND_OPERATION
returns-then-kind_of-ne-KIND_OPERATION c = let a = c.args in
    λ s. unnamed_other (doc_of s a.rows.now a.n) a.i (λ q. c.if-kind_of-ne-KIND_OPERATION.true (c.kind_of.ensures ∙ q))

pub returns-then-size_of-ne0 : goal.returns-then-size_of-ne0
returns-then-size_of-ne0 c = let a = c.args in
    λ s. unnamed_named (doc_of s a.rows.now a.n) a.i (sym c.kind_of.ensures ∙ c.if-kind_of-ne-KIND_OPERATION.false) (λ q. c.if-size_of-ne0.true (c.size_of.ensures ∙ q))

pub link_of-requires : goal.link_of-requires
link_of-requires c = omega (arith, c.requires.1.firsts)

pub returns-then-link_of-i : goal.returns-then-link_of-i
returns-then-link_of-i c = let a = c.args in
    λ s. unnamed_before (doc_of s a.rows.now a.n) a.i (sym c.kind_of.ensures ∙ c.if-kind_of-ne-KIND_OPERATION.false) (sym c.size_of.ensures ∙ c.if-size_of-ne0.false) (omega (arith, c.requires.2, rows_count a.rows.now a.n)) (omega (arith, c.if-link_of-i.true, kinds_first a.rows.now a.n a.firstk.now a.nextk.now c.requires.1 kind_operation (omega arith) c.link_of.ensures))

pub link_of-requires-2 : goal.link_of-requires-2
link_of-requires-2 c = let p = c.requires in
    kinds_room _ _ _ _ p.1 _ p.2 p.0.few

pub returns : goal.returns
returns c = let a = c.args in
    let e = sym c.kind_of.ensures ∙ c.if-kind_of-ne-KIND_OPERATION.false in
    λ s. rw (kinds_after a.rows.now a.n a.firstk.now a.nextk.now c.requires.1 kind_operation a.i (omega arith) c.requires.2 (eq-eqb _ _ e) c.link_of-2.ensures)
    (unnamed_after (doc_of s a.rows.now a.n) a.i e (sym c.size_of.ensures ∙ c.if-size_of-ne0.false) (omega (arith, c.requires.2, rows_count a.rows.now a.n)) (omega (arith, c.if-link_of-i.false, kinds_first a.rows.now a.n a.firstk.now a.nextk.now c.requires.1 kind_operation (omega arith) c.link_of.ensures)) a.n (rows_count a.rows.now a.n))
