use native.Mathlib.Omega.{arith}
use Rattle.query_rows.proofs.RowsIn.{rowed_sized}
use Rattle.query_rows.proofs.Rooms.{room_enough}
use Rattle.plan_making.proofs.MadeLaws.{spreads_known, operation_low}
use Rattle.plan_making.proofs.fill_cells.Goals as goal

pub rank_fragments-requires : goal.rank_fragments-requires
rank_fragments-requires c = (rowed_sized c.requires.0.rowed, omega (arith, c.requires.3, room_enough c.args.n c.requires.0.rowed.few))

pub number_keys-requires : goal.number_keys-requires
number_keys-requires c = (c.requires.0.rowed, c.requires.5, c.requires.6, c.requires.4)

pub fill_table-requires : goal.fill_table-requires
fill_table-requires c = (record { booked = c.requires.0.booked; rowed = c.requires.0.rowed; family = c.requires.1; kinds = c.requires.2; ranked = c.rank_fragments.ensures; keyed = c.number_keys.ensures; spreads = spreads_known c.args.t.now c.args.book.now c.args.s.now c.args.rows.now c.args.n c.args.o c.requires.0 }, omega (arith, operation_low c.args.t.now c.args.book.now c.args.s.now c.args.rows.now c.args.n c.args.o c.requires.0, c.requires.0.rowed.few), c.requires.7)

pub shape_of-ranks : goal.shape_of-ranks
shape_of-ranks c = c.ranks-1.given

pub shape_of-keys : goal.shape_of-keys
shape_of-keys c = c.keys-1.given

pub shape_of-heads : goal.shape_of-heads
shape_of-heads c = c.heads-1.given

pub shape_of-nexts : goal.shape_of-nexts
shape_of-nexts c = c.nexts-1.given

pub shape_of-cells : goal.shape_of-cells
shape_of-cells c = c.cells-1.given

pub returns : goal.returns
returns c = c.fill_table.ensures
