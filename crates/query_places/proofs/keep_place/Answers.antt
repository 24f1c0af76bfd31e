-- By the parent's place, which is kept already.
use mathlib.Core.Path.{sym, ap, ◌∙◌}
use native.Mathlib.Omega.{arith}
use Rattle.query_rows.proofs.RowsIn.{rowed_sized}
use Rattle.query_rows.proofs.Rooms.{room_enough}
use Rattle.query_inside.specs.Enclosed.{encloses}
use Rattle.query_places.specs.Placed.{place_in}
use Rattle.query_places.proofs.PlacedLaws.{fields_kept, parent_kept, placed_enclosing, placed_row}
use Rattle.query_places.proofs.keep_place.Goals as goal

pub kind_of-requires : goal.kind_of-requires
kind_of-requires c = rowed_sized c.requires.3

pub returns-then-encloses : goal.returns-then-encloses
returns-then-encloses c = placed_enclosing c.args.t.now c.args.book.now c.args.es.now c.args.s.now c.args.rows.now c.args.n c.requires.3 c.args.at.now c.args.wrappers.now c.args.i c.requires.5 c.requires.4 (ap encloses (sym c.kind_of.ensures) ∙ sym c.encloses.ensures ∙ c.if-encloses.true)

pub parent_of-requires : goal.parent_of-requires
parent_of-requires c = rowed_sized c.requires.3

pub place_of-above-requires : goal.place_of-above-requires
place_of-above-requires c = (rowed_sized c.requires.3, c.requires.4.enclosed.ats, c.requires.4.enclosed.inners)

pub place_from-p-requires : goal.place_from-p-requires
place_from-p-requires c = (c.requires.0, c.requires.1, c.requires.2, c.requires.3, fields_kept c.requires.4.enclosed, (rw (c.place_of-above.ensures, c.parent_of.ensures) (parent_kept c.args.t.now c.args.book.now c.args.es.now c.args.s.now c.args.rows.now c.args.n c.requires.3 c.args.at.now c.args.wrappers.now c.args.i c.requires.5 c.requires.4).within))

pub offset_bounds-at-i : goal.offset_bounds-at-i
offset_bounds-at-i c = omega (arith, c.requires.5, c.requires.3.few)

pub bounds-at-i : goal.bounds-at-i
bounds-at-i c = omega (arith, c.requires.5, c.requires.4.enclosed.ats, room_enough _ c.requires.3.few)

pub offset_bounds-wrappers-i : goal.offset_bounds-wrappers-i
offset_bounds-wrappers-i c = omega (arith, c.requires.5, c.requires.3.few)

pub bounds-wrappers-i : goal.bounds-wrappers-i
bounds-wrappers-i c = omega (arith, c.requires.5, c.requires.4.enclosed.inners, room_enough _ c.requires.3.few)

pub returns : goal.returns
returns c = placed_row c.args.t.now c.args.book.now c.args.es.now c.args.s.now c.args.rows.now c.args.n c.requires.3 c.args.at.now c.args.wrappers.now c.args.i c.requires.5 c.requires.4 (ap encloses (sym c.kind_of.ensures) ∙ sym c.encloses.ensures ∙ c.if-encloses.false) c.place_from-p.result c.place_of-above.result (c.place_of-above.ensures ∙ ap (place_in c.args.rows.now c.args.n c.args.at.now c.args.wrappers.now) c.parent_of.ensures) c.place_from-p.ensures
