-- The type of the row found, by its name and its extra.
use mathlib.Core.Path.{◌∙◌}
use native.Mathlib.Omega.{arith}
use Rattle.paper.specs.Language.{Document}
use Rattle.query_rows.proofs.RowsIn.{rowed_sized, name_within}
use Rattle.value_definitions.proofs.DeclaredLaws.{declared_due}
use Rattle.value_definitions.proofs.ReadLaws.{taken_treed}
use Rattle.value_definitions.proofs.declared_of.Goals as goal

pub first_declared-i-requires : goal.first_declared-i-requires
first_declared-i-requires c = let a = c.args in
    let p = c.requires in
    (taken_treed Document a.s.now a.rows.now a.past.now a.n p.1 p.2, p.3)

pub name_of-requires : goal.name_of-requires
name_of-requires c = rowed_sized c.requires.1.rowed

pub size_of-requires : goal.size_of-requires
size_of-requires c = rowed_sized c.requires.1.rowed

pub extra_of-requires : goal.extra_of-requires
extra_of-requires c = rowed_sized c.requires.1.rowed

pub due_of-requires : goal.due_of-requires
due_of-requires c = let a = c.args in
    let p = c.requires in
    (p.0, omega (arith, name_within a.s.now a.rows.now a.n p.1.rowed c.first_declared-i.result, c.wide-at.ensures, c.name_of.ensures, c.wide-size.ensures, c.size_of.ensures))

pub returns : goal.returns
returns c = let a = c.args in
    let p = c.requires in
    declared_due a.s.now a.rows.now a.n a.v c.first_declared-i.result c.first_declared-i.ensures a.t.now a.book.now
    c.wide-at.result c.wide-size.result c.due_of.result.sort c.due_of.result.number c.due_of.result.wrappers p.1
    (c.wide-at.ensures ∙ c.name_of.ensures) (c.wide-size.ensures ∙ c.size_of.ensures) c.due_of.ensures.0
    (c.due_of.ensures.1 ∙ c.extra_of.ensures)
