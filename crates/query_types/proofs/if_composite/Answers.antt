-- By the kind in the book.
use mathlib.Core.Path.{◌≡◌, ap, ◌∙◌}
use native.Mathlib.Omega.{arith}
use Rattle.table_types.specs.Booked.{kind_in, is_composite_tag}
use Rattle.query_types.proofs.CompositeLaws.{kind_few, composite_yes, composite_no}
use Rattle.query_types.proofs.if_composite.Goals as goal

pub overflow_cast-result : goal.overflow_cast-result
overflow_cast-result c =
    let tested : c.is_composite.result ≡ is_composite_tag (kind_in c.args.book.now c.args.k) = c.is_composite.ensures ∙ ap is_composite_tag c.kind_in.ensures in
    let a = c.args in
    omega (arith, kind_few a.t.now a.book.now c.requires a.k tested c.if-is_composite.true)

pub overflow_add-result : goal.overflow_add-result
overflow_add-result c =
    let tested : c.is_composite.result ≡ is_composite_tag (kind_in c.args.book.now c.args.k) = c.is_composite.ensures ∙ ap is_composite_tag c.kind_in.ensures in
    let a = c.args in
    omega (arith, kind_few a.t.now a.book.now c.requires a.k tested c.if-is_composite.true)

pub returns-then-is_composite : goal.returns-then-is_composite
returns-then-is_composite c =
    let tested : c.is_composite.result ≡ is_composite_tag (kind_in c.args.book.now c.args.k) = c.is_composite.ensures ∙ ap is_composite_tag c.kind_in.ensures in
    let a = c.args in
    composite_yes a.t.now a.book.now c.requires a.k tested c.if-is_composite.true

pub returns : goal.returns
returns c =
    let tested : c.is_composite.result ≡ is_composite_tag (kind_in c.args.book.now c.args.k) = c.is_composite.ensures ∙ ap is_composite_tag c.kind_in.ensures in
    let a = c.args in
    composite_no a.t.now a.book.now c.requires a.k tested c.if-is_composite.false
