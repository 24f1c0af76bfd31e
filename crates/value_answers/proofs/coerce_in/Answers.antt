-- `value_answers::coerce_in` meets its contract: the list is as long as there is room for the rows.
use mathlib.Core.Path.{refl, ◌∙◌}
use native.Mathlib.Omega.{arith}
use Prim.Native.Nat.{ℕ}
use lib.ListN.{length-replicate}
use Rattle.query_rows.proofs.Rooms.{room_most}
use Rattle.value_results.specs.Results.{held_room}
use Rattle.value_answers.proofs.coerce_in.Goals as goal

pub whole_as_slice-coerce_with : goal.whole_as_slice-coerce_with
whole_as_slice-coerce_with g c = omega (arith, c.requires.5, room_most c.args.n1)

pub coerce_with-requires : goal.coerce_with-requires
coerce_with-requires g c = let p = c.requires in
    (p.0, p.1, p.2, p.3, length-replicate {A = ℕ} g.row.ROOM 0 ∙ p.5, refl {a = held_room}, p.4)
