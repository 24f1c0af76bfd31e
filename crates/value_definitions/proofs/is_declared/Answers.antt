-- By the kind, then the parent.
use mathlib.Core.Path.{sym, ◌∙◌}
use Rattle.query_rows.specs.Rowed.{row_in}
use Rattle.value_definitions.proofs.SeekLaws.{declared_other, declared_is}
use Rattle.value_definitions.proofs.is_declared.Goals as goal

pub returns-then-kind_of-ne-KIND_TYPE_REFERENCE : goal.returns-then-kind_of-ne-KIND_TYPE_REFERENCE
returns-then-kind_of-ne-KIND_TYPE_REFERENCE c = let a = c.args in
    declared_other a.v (row_in a.rows.now a.n a.j) (λ q. c.if-kind_of-ne-KIND_TYPE_REFERENCE.true (c.kind_of.ensures ∙ q))

pub returns : goal.returns
returns c = let a = c.args in
    rw (c.wide.ensures, c.parent_of.ensures)
    (declared_is a.v (row_in a.rows.now a.n a.j) (sym c.kind_of.ensures ∙ c.if-kind_of-ne-KIND_TYPE_REFERENCE.false))
