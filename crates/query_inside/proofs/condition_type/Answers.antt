-- By the row where the condition stands.
use Rattle.query_rows.proofs.RowsIn.{rowed_sized, name_within}
use Rattle.query_types.specs.Coded.{type_coded}
use Rattle.query_inside.proofs.ConditionLaws.{unconditioned, condition_typed}
use Rattle.query_inside.proofs.condition_type.Goals as goal

pub first_below-j-requires : goal.first_below-j-requires
first_below-j-requires c = let g = c.requires in
    (rowed_sized g.0.rowed, g.0.family, g.1)

pub returns-then-n-j : goal.returns-then-n-j
returns-then-n-j c = let a = c.args in
    unconditioned a.t.now a.s.now a.rows.now a.n a.i c.first_below-j.result c.first_below-j.ensures (type_coded a.above) c.if-n-j.true

pub name_of-requires : goal.name_of-requires
name_of-requires c = rowed_sized c.requires.0.rowed

pub size_of-requires : goal.size_of-requires
size_of-requires c = rowed_sized c.requires.0.rowed

pub composite-requires : goal.composite-requires
composite-requires c = let a = c.args in
    let g = c.requires in
    (g.0.booked, rw (c.name_of.ensures, c.size_of.ensures) (name_within a.s.now a.rows.now a.n g.0.rowed c.first_below-j.result))

pub returns : goal.returns
returns c = let a = c.args in
    condition_typed a.t.now a.s.now a.rows.now a.n a.i c.first_below-j.result c.first_below-j.ensures (type_coded a.above) _ _ c.if-n-j.false c.name_of.ensures c.size_of.ensures c.composite.ensures
