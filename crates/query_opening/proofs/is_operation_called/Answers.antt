use mathlib.Core.Path.{sym, ap, ◌∙◌}
use native.Mathlib.Omega.{arith}
use lib.Seq.{take-length}
use borrow.Author.Tests.{eq-eqb, ne_eqb}
use Rattle.paper.specs.Tokens.{same}
use Rattle.paper_query.specs.Constructs.{name_of}
use Rattle.query_rows.specs.Rowed.{doc_of}
use Rattle.query_opening.proofs.is_operation_called.Goals as goal

pub returns-then-kind_of-ne-KIND_OPERATION : goal.returns-then-kind_of-ne-KIND_OPERATION
returns-then-kind_of-ne-KIND_OPERATION c = rw (ne_eqb _ _ (λ q. c.if-kind_of-ne-KIND_OPERATION.true (c.kind_of.ensures ∙ q)))

pub is_called-requires : goal.is_called-requires
is_called-requires c = let a = c.args in
    (c.requires, omega arith)

pub returns : goal.returns
returns c = let a = c.args in
    rw (eq-eqb _ _ (sym c.kind_of.ensures ∙ c.if-kind_of-ne-KIND_OPERATION.false)) (c.is_called.ensures ∙ ap (same (name_of (doc_of a.s.now a.rows.now a.n) a.i)) (take-length a.name.now))
