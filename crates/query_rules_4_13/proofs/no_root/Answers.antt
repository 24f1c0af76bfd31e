-- By the row's kind and extra.
use mathlib.Core.Path.{sym, ap, ◌∙◌}
use Prim.Native.Nat.{ℕ}
use Rattle.paper_table.specs.References.{found}
use Rattle.paper_table.specs.Types.{table_of}
use Rattle.paper_query.specs.Enclosing.{root_of}
use Rattle.query_rows.specs.Rowed.{doc_of}
use Rattle.query_rows.proofs.RowsIn.{rowed_sized}
use Rattle.query_rules_4_13.proofs.RuleLaws.{root_other, root_judged}
use Rattle.query_rules_4_13.proofs.no_root.Goals as goal

pub kind_of-requires : goal.kind_of-requires
kind_of-requires c = rowed_sized c.requires.1

pub returns-then-kind_of-ne-KIND_OPERATION : goal.returns-then-kind_of-ne-KIND_OPERATION
returns-then-kind_of-ne-KIND_OPERATION c = let a = c.args in
    root_other (table_of a.t.now) (doc_of a.s.now a.rows.now a.n) a.i (λ z. c.if-kind_of-ne-KIND_OPERATION.true (c.kind_of.ensures ∙ z))

pub extra_of-requires : goal.extra_of-requires
extra_of-requires c = rowed_sized c.requires.1

pub has_root-requires : goal.has_root-requires
has_root-requires c = c.requires.0

pub returns : goal.returns
returns c = let a = c.args in
    root_judged (table_of a.t.now) (doc_of a.s.now a.rows.now a.n) a.i (sym c.kind_of.ensures ∙ c.if-kind_of-ne-KIND_OPERATION.false) (c.has_root.ensures ∙ ap (λ (x : ℕ). found (root_of (table_of a.t.now) x)) c.extra_of.ensures)
