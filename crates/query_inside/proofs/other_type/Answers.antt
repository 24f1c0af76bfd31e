-- By the row's kind.
use mathlib.Core.Path.{sym, ◌∙◌}
use Rattle.query_rows.proofs.RowsIn.{rowed_sized}
use Rattle.query_rows.specs.Rowed.{row_in}
use Rattle.query_inside.proofs.KindLaws.{rest_inline}
use Rattle.query_inside.proofs.ConditionLaws.{operation_typed, fragment_typed, inline_typed}
use Rattle.query_inside.proofs.other_type.Goals as goal

pub kind_of-kind-requires : goal.kind_of-kind-requires
kind_of-kind-requires c = rowed_sized c.requires.0.rowed

pub extra_of-requires : goal.extra_of-requires
extra_of-requires c = rowed_sized c.requires.0.rowed

pub root_type-requires : goal.root_type-requires
root_type-requires c = c.requires.0.booked

pub returns-then-kind-eq-KIND_OPERATION : goal.returns-then-kind-eq-KIND_OPERATION
returns-then-kind-eq-KIND_OPERATION c = let a = c.args in
    operation_typed a.t.now a.s.now a.rows.now a.n a.i a.above _ (sym c.kind_of-kind.ensures ∙ c.if-kind-eq-KIND_OPERATION.true) c.extra_of.ensures c.root_type.ensures

pub condition_type-requires : goal.condition_type-requires
condition_type-requires c = let g = c.requires in
    (g.0, g.1)

pub returns-then-kind-eq-KIND_FRAGMENT : goal.returns-then-kind-eq-KIND_FRAGMENT
returns-then-kind-eq-KIND_FRAGMENT c = let a = c.args in
    fragment_typed a.t.now a.s.now a.rows.now a.n a.i a.above (sym c.kind_of-kind.ensures ∙ c.if-kind-eq-KIND_FRAGMENT.true) c.condition_type.ensures

pub condition_type-requires-2 : goal.condition_type-requires-2
condition_type-requires-2 c = let g = c.requires in
    (g.0, g.1)

pub returns : goal.returns
returns c = let a = c.args in
    let g = c.requires in
    inline_typed a.t.now a.s.now a.rows.now a.n a.i a.above (rest_inline (row_in a.rows.now a.n a.i).kind g.2 (λ z. c.if-kind-eq-KIND_OPERATION.false (c.kind_of-kind.ensures ∙ z)) (λ z. c.if-kind-eq-KIND_FRAGMENT.false (c.kind_of-kind.ensures ∙ z)) g.3) c.condition_type-2.ensures
