-- By the type inside the parent, which stands before the row.
use mathlib.Core.Path.{◌≡◌, sym, ap, ◌∙◌}
use mathlib.Core.Bool.{true}
use Prim.Native.Nat.{◌<◌}
use native.Mathlib.Omega.{arith}
use Rattle.query_rows.specs.Rowed.{row_in}
use Rattle.query_rows.proofs.RowsIn.{rowed_sized}
use Rattle.query_inside.specs.Enclosed.{encloses}
use Rattle.query_inside.proofs.KindLaws.{encloses_there}
use Rattle.value_fields.proofs.InsideLaws.{inside_none, above_none}
use Rattle.value_fields.proofs.+type_inside.Goals as goal

pub kind_of-requires : goal.kind_of-requires
kind_of-requires t c = rowed_sized c.requires.0.rowed

pub returns-then-not-encloses : goal.returns-then-not-encloses
returns-then-not-encloses t c =
    let tested : c.encloses.result ≡ encloses (row_in c.args.rows.now c.args.n c.args.i).kind = c.encloses.ensures ∙ ap encloses c.kind_of.ensures in
    inside_none c.args.t.now c.args.s.now c.args.rows.now c.args.n c.requires.0.rowed c.args.i (sym tested ∙ c.if-not-encloses.true)

pub parent_of-p-requires : goal.parent_of-p-requires
parent_of-p-requires t c = rowed_sized c.requires.0.rowed

pub type_from-requires : goal.type_from-requires
type_from-requires t c =
    let tested : c.encloses.result ≡ encloses (row_in c.args.rows.now c.args.n c.args.i).kind = c.encloses.ensures ∙ ap encloses c.kind_of.ensures in
    let enclosing-row : encloses (row_in c.args.rows.now c.args.n c.args.i).kind ≡ true = sym tested ∙ c.if-not-encloses.false in
    let there : c.args.i < c.args.n = encloses_there c.args.rows.now c.args.n c.args.i enclosing-row in
    (c.requires.0, c.requires.1, there, enclosing-row, above_none c.args.t.now c.args.s.now c.args.rows.now c.args.n c.requires.0.rowed c.args.i _ there c.parent_of-p.ensures c.if-i-p.true)

pub returns-then-i-p : goal.returns-then-i-p
returns-then-i-p t c = c.type_from.ensures

pub type_inside-above-requires : goal.type_inside-above-requires
type_inside-above-requires t c = (omega (arith, c.decreases, c.if-i-p.false), c.requires)

pub type_from-requires-2 : goal.type_from-requires-2
type_from-requires-2 t c =
    let tested : c.encloses.result ≡ encloses (row_in c.args.rows.now c.args.n c.args.i).kind = c.encloses.ensures ∙ ap encloses c.kind_of.ensures in
    let enclosing-row : encloses (row_in c.args.rows.now c.args.n c.args.i).kind ≡ true = sym tested ∙ c.if-not-encloses.false in
    let there : c.args.i < c.args.n = encloses_there c.args.rows.now c.args.n c.args.i enclosing-row in
    (c.requires.0, c.requires.1, there, enclosing-row, rw (← c.parent_of-p.ensures) (sym c.type_inside-above.ensures))

pub returns : goal.returns
returns t c = c.type_from-2.ensures
