-- By whether one was found.
use Prim.Native.Nat.{◌<◌}
use native.Mathlib.Omega.{arith}
use Rattle.paper.specs.Numbers.{most_rows}
use Rattle.query_rows.specs.Rowed.{room_of}
use Rattle.query_rows.proofs.Rooms.{room_most, room_rows}
use Rattle.query_alike.specs.Flags.Likened.{copy, model}
use Rattle.query_alike_pair.proofs.LikeLaws.{variable_room}
use Rattle.query_alike.proofs.liken_one.Goals as goal

pub model_of-model-requires : goal.model_of-model-requires
model_of-model-requires c = (c.requires.0, c.requires.1, c.requires.2)

pub overflow_cast-flag : goal.overflow_cast-flag
overflow_cast-flag c = omega (arith, c.if-model-n.true, c.requires.0.rowed.few)

pub overflow_add-flag : goal.overflow_add-flag
overflow_add-flag c = omega (arith, c.if-model-n.true, c.requires.0.rowed.few)

pub offset_bounds-flag-i : goal.offset_bounds-flag-i
offset_bounds-flag-i c =
    let held : c.args.i < room_of c.args.n = variable_room c.requires.0 c.args.i c.requires.2 in
    let room : c.args.i < most_rows = omega (arith, held, room_most c.args.n) in
    omega (arith, room)

pub bounds-flag-i : goal.bounds-flag-i
bounds-flag-i c =
    let held : c.args.i < room_of c.args.n = variable_room c.requires.0 c.args.i c.requires.2 in
    omega (arith, held, c.requires.3)

pub returns-then-model-n : goal.returns-then-model-n
returns-then-model-n c = copy c.model_of-model.result (c.model_of-model.ensures c.if-model-n.true)

pub overflow_cast-stack : goal.overflow_cast-stack
overflow_cast-stack c =
    let held : c.args.i < room_of c.args.n = variable_room c.requires.0 c.args.i c.requires.2 in
    let room : c.args.i < most_rows = omega (arith, held, room_most c.args.n) in
    omega (arith, room)

pub offset_bounds-stack-m : goal.offset_bounds-stack-m
offset_bounds-stack-m c =
    let held : c.args.i < room_of c.args.n = variable_room c.requires.0 c.args.i c.requires.2 in
    let room : c.args.i < most_rows = omega (arith, held, room_most c.args.n) in
    omega (arith, room, c.requires.1.few)

pub bounds-stack-m : goal.bounds-stack-m
bounds-stack-m c =
    let held : c.args.i < room_of c.args.n = variable_room c.requires.0 c.args.i c.requires.2 in
    omega (arith, held, c.requires.1.few, c.requires.1.size, room_rows c.args.rows.now c.args.n)

pub overflow_add-result : goal.overflow_add-result
overflow_add-result c =
    let held : c.args.i < room_of c.args.n = variable_room c.requires.0 c.args.i c.requires.2 in
    let room : c.args.i < most_rows = omega (arith, held, room_most c.args.n) in
    omega (arith, room, c.requires.1.few)

pub returns : goal.returns
returns c = model
