-- From the newest on, to the first that it is like.
use mathlib.Core.Path.{sym}
use Prim.Native.Nat.{◌-◌, ◌<◌}
use native.Mathlib.Omega.{arith}
use Rattle.query_rows.specs.Rowed.{room_of}
use Rattle.query_rows.proofs.Rooms.{room_rows}
use Rattle.query_alike_pair.proofs.LikeLaws.{variable_room}
use Rattle.query_alike.proofs.model_of.Goals as goal

pub newest-end-requires : goal.newest-end-requires
newest-end-requires c = tt

pub model_at-model-requires : goal.model_at-model-requires
model_at-model-requires c =
    let room : c.args.m < room_of c.args.n = omega (arith, variable_room c.requires.0 c.args.i c.requires.2, c.requires.1.few) in
    let here : c.loop-k.k - 1 < c.args.m = omega (arith, c.loop-k-test.true) in
    omega (arith, here, room, c.requires.1.size, room_rows c.args.rows.now c.args.n)

pub is_like-requires : goal.is_like-requires
is_like-requires c =
    let here : c.loop-k.k - 1 < c.args.m = omega (arith, c.loop-k-test.true) in
    (c.requires.0, c.requires.2, rw c.model_at-model.ensures (c.requires.1.variables (c.loop-k.k - 1) here))

pub returns-then-is_like : goal.returns-then-is_like
returns-then-is_like c =
    let here : c.loop-k.k - 1 < c.args.m = omega (arith, c.loop-k-test.true) in
    λ h. record { waits = record { at = c.loop-k.k - 1; below = here; is = sym c.model_at-model.ensures }; alike = c.is_like.ensures c.if-is_like.true }

pub returns : goal.returns
returns c = λ h. absurd (omega (arith, h))
