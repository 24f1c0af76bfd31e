-- The spans of the definitions so far stand, and there is room for the rest.
use Prim.Native.Nat.{◌+◌, ◌<◌}
use lib.ListN.{length-set}
use Rattle.table_book.specs.Book.{room, count_in}
use Rattle.table_types.specs.Booked.{definition_on}
use Rattle.table_entries.specs.Entries.{Roomy, entries_in}
use Rattle.table_entries.proofs.Runs.{roomy_less}
use Rattle.table_entries.proofs.Spans.{spanning_start, spanning_end, next_few, next_room, spanning_more}
use native.Mathlib.Omega.{arith}
use Rattle.table_entries.proofs.fill_entries.Goals as goal

pub count_of-count-requires : goal.count_of-count-requires
count_of-count-requires c = c.requires.booked.indexed.held.cells

pub bounds-es-0 : goal.bounds-es-0
bounds-es-0 c = omega (arith, c.requires.few.cells)

pub loop-i-init : goal.loop-i-init
loop-i-init c = spanning_start _ _ _ _ c.requires (omega (arith, length-set c.args.es.now 0 0))

pub enter_definition-e-requires : goal.enter_definition-e-requires
enter_definition-e-requires c =
    let more : c.loop-i.i < count_in c.args.book.now = omega (arith, c.loop-i-test.true, c.count_of-count.ensures) in
    let few : Roomy c.loop-i.es (c.loop-i.e + entries_in (definition_on c.args.t.now c.loop-i.i)) = roomy_less (next_few _ _ _ _ c.requires.booked _ _ c.loop-i.invariant more) (omega arith) in
    (c.requires.booked, more, few)

pub overflow_cast-es : goal.overflow_cast-es
overflow_cast-es c =
    let more : c.loop-i.i < count_in c.args.book.now = omega (arith, c.loop-i-test.true, c.count_of-count.ensures) in
    let few : Roomy c.loop-i.es (c.loop-i.e + entries_in (definition_on c.args.t.now c.loop-i.i)) = roomy_less (next_few _ _ _ _ c.requires.booked _ _ c.loop-i.invariant more) (omega arith) in
    omega (arith, few.most, c.enter_definition-e.ensures.size)

pub offset_bounds-es-i : goal.offset_bounds-es-i
offset_bounds-es-i c =
    let more : c.loop-i.i < count_in c.args.book.now = omega (arith, c.loop-i-test.true, c.count_of-count.ensures) in
    let roomy : c.loop-i.i < room = next_room _ _ _ _ c.requires.booked _ _ c.loop-i.invariant more in
    omega (arith, roomy)

pub bounds-es-i : goal.bounds-es-i
bounds-es-i c =
    let more : c.loop-i.i < count_in c.args.book.now = omega (arith, c.loop-i-test.true, c.count_of-count.ensures) in
    let roomy : c.loop-i.i < room = next_room _ _ _ _ c.requires.booked _ _ c.loop-i.invariant more in
    omega (arith, roomy, c.enter_definition-e.ensures.cells, c.loop-i.invariant.few.cells)

pub loop-i-preserved : goal.loop-i-preserved
loop-i-preserved c =
    let more : c.loop-i.i < count_in c.args.book.now = omega (arith, c.loop-i-test.true, c.count_of-count.ensures) in
    spanning_more _ _ _ _ c.requires.booked _ _ c.loop-i.invariant more _ _ c.enter_definition-e.ensures

pub shape_of-es : goal.shape_of-es
shape_of-es c = omega (arith, c.loop-i.invariant.whole, length-set c.args.es.now 0 0)

pub returns : goal.returns
returns c = spanning_end _ _ _ _ c.requires.booked _ _ c.loop-i.invariant (omega (arith, c.loop-i-test.false, c.count_of-count.ensures))
