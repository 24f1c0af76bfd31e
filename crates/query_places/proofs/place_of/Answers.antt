-- By the row's kind.
use mathlib.Core.Path.{sym, ap, ◌∙◌}
use native.Mathlib.Omega.{arith}
use Rattle.query_rows.proofs.Rooms.{room_enough}
use Rattle.query_inside.specs.Enclosed.{encloses}
use Rattle.query_places.proofs.PlacedLaws.{in_none, in_enclosing, in_row}
use Rattle.query_places.proofs.place_of.Goals as goal

pub returns-then-n-i : goal.returns-then-n-i
returns-then-n-i c = sym (in_none c.args.rows.now c.args.n c.args.at.now c.args.wrappers.now c.args.i c.if-n-i.true)

pub kind_of-requires : goal.kind_of-requires
kind_of-requires c = c.requires.0

pub returns-then-encloses : goal.returns-then-encloses
returns-then-encloses c = sym (in_enclosing c.args.rows.now c.args.n c.args.at.now c.args.wrappers.now c.args.i (omega arith) (ap encloses (sym c.kind_of.ensures) ∙ sym c.encloses.ensures ∙ c.if-encloses.true))

pub bounds-at-i : goal.bounds-at-i
bounds-at-i c = omega (arith, c.requires.1, c.if-n-i.false, room_enough _ c.requires.0.few)

pub bounds-wrappers-i : goal.bounds-wrappers-i
bounds-wrappers-i c = omega (arith, c.requires.2, c.if-n-i.false, room_enough _ c.requires.0.few)

pub returns : goal.returns
returns c = sym (in_row c.args.rows.now c.args.n c.args.at.now c.args.wrappers.now c.args.i (omega arith) (ap encloses (sym c.kind_of.ensures) ∙ sym c.encloses.ensures ∙ c.if-encloses.false))
