-- The lists are as long as there is room for the rows.
use mathlib.Core.Path.{refl, ap, ◌∙◌}
use native.Mathlib.Omega.{arith}
use Prim.Native.Nat.{ℕ}
use lib.ListN.{replicate, length-replicate}
use Rattle.query_rows.proofs.Rooms.{room_most}
use Rattle.query_links.specs.Links.{kinds_size}
use Rattle.value_fields.proofs.reach_in.Goals as goal

pub whole_as_slice-reach_with : goal.whole_as_slice-reach_with
whole_as_slice-reach_with g c = omega (arith, c.requires.3, room_most c.args.n)

pub whole_as_slice-reach_with-2 : goal.whole_as_slice-reach_with-2
whole_as_slice-reach_with-2 g c = omega (arith, c.requires.3, room_most c.args.n)

pub whole_as_slice-reach_with-3 : goal.whole_as_slice-reach_with-3
whole_as_slice-reach_with-3 g c = omega (arith, c.requires.3, room_most c.args.n)

pub whole_as_slice-reach_with-4 : goal.whole_as_slice-reach_with-4
whole_as_slice-reach_with-4 g c = omega (arith, c.requires.3, room_most c.args.n)

pub whole_as_slice-reach_with-5 : goal.whole_as_slice-reach_with-5
whole_as_slice-reach_with-5 g c = omega (arith, c.requires.3, room_most c.args.n)

pub whole_as_slice-reach_with-6 : goal.whole_as_slice-reach_with-6
whole_as_slice-reach_with-6 g c = omega (arith, c.requires.3, room_most c.args.n)

pub whole_as_slice-reach_with-7 : goal.whole_as_slice-reach_with-7
whole_as_slice-reach_with-7 g c = omega (arith, c.requires.3, room_most c.args.n)

pub reach_with-requires : goal.reach_with-requires
reach_with-requires g c = let p = c.requires in
    let e = length-replicate {A = ℕ} g.row.ROOM 0 ∙ p.3 in
    (p.0, e, refl {a = kinds_size}, e, e, e, e, ap (λ (k : ℕ). replicate k 0) p.3, e, p.1, p.2)
