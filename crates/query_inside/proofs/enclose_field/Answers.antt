-- Two stores for one row.
use native.Mathlib.Omega.{arith}
use Rattle.query_rows.proofs.RowsIn.{rowed_sized, name_within}
use Rattle.query_rows.proofs.Rooms.{room_enough}
use Rattle.query_fields.proofs.FieldLaws.{kept_stands}
use Rattle.query_inside.proofs.EnclosedLaws.{above_known, enclosed_field}
use Rattle.query_inside.proofs.enclose_field.Goals as goal

pub name_of-requires : goal.name_of-requires
name_of-requires c = rowed_sized c.requires.2

pub size_of-requires : goal.size_of-requires
size_of-requires c = rowed_sized c.requires.2

pub field_in-f-requires : goal.field_in-f-requires
field_in-f-requires c = let a = c.args in
    let g = c.requires in
    (g.0, g.1, above_known a.t.now a.s.now a.rows.now a.n g.2 a.i a.above g.6, rw (c.name_of.ensures, c.size_of.ensures) (name_within a.s.now a.rows.now a.n g.2 a.i))

pub field_type-requires : goal.field_type-requires
field_type-requires c = (c.requires.0, kept_stands _ _ _ _ _ c.field_in-f.ensures)

pub bounds-inside-i : goal.bounds-inside-i
bounds-inside-i c = omega (arith, c.requires.3.inners, c.requires.4, room_enough _ c.requires.2.few)

pub bounds-at-i : goal.bounds-at-i
bounds-at-i c = omega (arith, c.requires.3.ats, c.requires.4, room_enough _ c.requires.2.few)

pub returns : goal.returns
returns c = let a = c.args in
    let g = c.requires in
    enclosed_field a.t.now a.s.now a.rows.now a.n g.2 a.i g.4 a.book.now a.es.now a.inside.now a.at.now g.3 _ _ a.above g.5 g.6 (rw (← c.name_of.ensures, ← c.size_of.ensures) c.field_in-f.ensures) c.field_type.ensures
