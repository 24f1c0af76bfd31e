use mathlib.Core.Path.{◌≡◌, subst}
use native.Mathlib.Omega.{arith}
use Rattle.plan_tests.specs.Right.{TableTo}
use Rattle.plan_tests.proofs.TableLaws.{filling_start, filling_put, row_size}
use Rattle.plan_tests.proofs.fill_table.Goals as goal

pub loop-i-init : goal.loop-i-init
loop-i-init c = filling_start c.args.t.now c.args.s.now c.args.rows.now c.args.n c.args.o c.args.cells.now

pub overflow_mul-from : goal.overflow_mul-from
overflow_mul-from c = omega (arith, c.loop-i-test.true, c.requires.0.rowed.few)

pub overflow_add-to : goal.overflow_add-to
overflow_add-to c = omega (arith, c.loop-i-test.true, c.requires.0.rowed.few)

pub slice_bounds-fill_row-end : goal.slice_bounds-fill_row-end
slice_bounds-fill_row-end c = omega (arith, c.loop-i.invariant.size, c.requires.2, c.loop-i-test.true)

pub fill_row-requires : goal.fill_row-requires
fill_row-requires c = (c.requires.0, c.loop-i-test.true, c.requires.1, row_size c.loop-i.cells c.loop-i.i (omega (arith, c.loop-i.invariant.size, c.requires.2, c.loop-i-test.true)))

pub loop-i-preserved : goal.loop-i-preserved
loop-i-preserved c = filling_put c.args.t.now c.args.s.now c.args.rows.now c.args.n c.args.o c.args.cells.now c.loop-i.cells _ c.loop-i.i c.loop-i.invariant c.loop-i-test.true c.requires.2 c.fill_row.ensures

pub shape_of-cells : goal.shape_of-cells
shape_of-cells c = c.loop-i.invariant.size

pub returns : goal.returns
returns c = let z : c.loop-i.i ≡ c.args.n = omega (arith, c.loop-i-test.false, c.loop-i.invariant.most) in subst (TableTo c.args.t.now c.args.s.now c.args.rows.now c.args.n c.args.o c.loop-i.cells) z c.loop-i.invariant.right
