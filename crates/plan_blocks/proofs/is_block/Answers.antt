-- A field, with selections, reached.
use mathlib.Core.Path.{sym, ◌∙◌}
use Rattle.query_rows.specs.Rowed.{doc_of}
use Rattle.plan_blocks.proofs.BlockLaws.{block_no_field, block_no_set, block_by}
use Rattle.plan_blocks.proofs.is_block.Goals as goal

pub returns-then-kind_of-ne-KIND_FIELD : goal.returns-then-kind_of-ne-KIND_FIELD
returns-then-kind_of-ne-KIND_FIELD c = let a = c.args in
    block_no_field (doc_of a.s.now a.rows.now a.n) a.o a.i (λ e. c.if-kind_of-ne-KIND_FIELD.true (c.kind_of.ensures ∙ e))

pub reaches-requires : goal.reaches-requires
reaches-requires c = let p = c.requires in
    (p.2, p.3, p.4, p.0.few, p.5)

pub returns-then-has_selections : goal.returns-then-has_selections
returns-then-has_selections c = let a = c.args in
    block_by (doc_of a.s.now a.rows.now a.n) a.o a.i c.reaches.result (sym c.kind_of.ensures ∙ c.if-kind_of-ne-KIND_FIELD.false) (sym c.if-has_selections.true ∙ c.has_selections.ensures) c.reaches.ensures

pub returns : goal.returns
returns c = let a = c.args in
    block_no_set (doc_of a.s.now a.rows.now a.n) a.o a.i (sym c.if-has_selections.false ∙ c.has_selections.ensures)
