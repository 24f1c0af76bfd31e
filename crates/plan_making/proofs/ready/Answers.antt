use mathlib.Core.Path.{sym, ◌∙◌}
use native.Mathlib.Omega.{arith}
use lib.Seq.{length-take-le}
use Rattle.query_rows.proofs.RowsIn.{rowed_sized}
use Rattle.plan_making.proofs.MadeLaws.{operation_defines}
use Rattle.query_rows.proofs.Rooms.{room_enough}
use Rattle.plan_making.proofs.ready.Goals as goal

pub families-requires : goal.families-requires
families-requires c = (c.requires.0.rowed, c.requires.1, c.requires.2)

pub kinds-requires : goal.kinds-requires
kinds-requires c = (rowed_sized c.requires.0.rowed, c.requires.3, c.requires.4)

pub find_blocks-m-requires : goal.find_blocks-m-requires
find_blocks-m-requires c = (c.requires.0.rowed, c.families.ensures, c.kinds.ensures, operation_defines c.args.t.now c.args.book.now c.args.s.now c.args.rows.now c.args.n c.args.o c.requires.0, c.requires.5, c.requires.6, c.requires.7, c.requires.8, c.requires.9, c.requires.10)

pub slice_bounds-fill_cells-end : goal.slice_bounds-fill_cells-end
slice_bounds-fill_cells-end c = omega (arith, c.firsts-1.given, c.requires.8)

pub slice_bounds-fill_cells-end-2 : goal.slice_bounds-fill_cells-end-2
slice_bounds-fill_cells-end-2 c = sym (length-take-le 2048 c.find_blocks-m.new.firsts (omega (arith, c.firsts-1.given, c.requires.8)))

pub fill_cells-requires : goal.fill_cells-requires
fill_cells-requires c = (c.requires.0, c.families.ensures, c.kinds.ensures, c.owner-1.given ∙ c.requires.5, c.mark-1.given ∙ c.requires.6, length-take-le 2048 c.find_blocks-m.new.firsts (omega (arith, c.firsts-1.given, c.requires.8)), c.nexts-1.given ∙ c.requires.9, c.requires.11)

pub shape_of-first : goal.shape_of-first
shape_of-first c = c.first-1.given

pub shape_of-next : goal.shape_of-next
shape_of-next c = c.next-1.given

pub shape_of-firstk : goal.shape_of-firstk
shape_of-firstk c = c.firstk-1.given

pub shape_of-nextk : goal.shape_of-nextk
shape_of-nextk c = c.nextk-1.given

pub shape_of-owner : goal.shape_of-owner
shape_of-owner c = c.owner-2-1.given ∙ c.owner-1.given

pub shape_of-mark : goal.shape_of-mark
shape_of-mark c = c.mark-2-1.given ∙ c.mark-1.given

pub shape_of-target : goal.shape_of-target
shape_of-target c = c.target-1.given

pub shape_of-firsts : goal.shape_of-firsts
shape_of-firsts c = c.firsts-2-1.given.1 ∙ c.firsts-1.given

pub shape_of-nexts : goal.shape_of-nexts
shape_of-nexts c = c.nexts-2-1.given ∙ c.nexts-1.given

pub shape_of-stack : goal.shape_of-stack
shape_of-stack c = c.stack-1.given

pub shape_of-cells : goal.shape_of-cells
shape_of-cells c = c.cells-1.given

pub returns : goal.returns
returns c = record { family = c.families.ensures; long = omega (arith, c.cells-1.given, c.requires.11); table = c.fill_cells.ensures; outs = omega (arith, c.target-1.given, c.requires.7, room_enough c.args.n c.requires.0.rowed.few); blocks = c.find_blocks-m.ensures }
