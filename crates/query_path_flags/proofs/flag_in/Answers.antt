-- The lists are as long as there is room for the rows.
use mathlib.Core.Path.{◌∙◌}
use native.Mathlib.Omega.{arith}
use lib.ListN.{length-replicate}
use Rattle.query_rows.proofs.Rooms.{room_most}
use Rattle.query_path_flags.proofs.flag_in.Goals as goal

pub whole_as_slice-flag_with : goal.whole_as_slice-flag_with
whole_as_slice-flag_with g c = omega (arith, c.requires.6, room_most c.args.n)

pub whole_as_slice-flag_with-2 : goal.whole_as_slice-flag_with-2
whole_as_slice-flag_with-2 g c = omega (arith, c.requires.6, room_most c.args.n)

pub whole_as_slice-flag_with-3 : goal.whole_as_slice-flag_with-3
whole_as_slice-flag_with-3 g c = omega (arith, c.requires.6, room_most c.args.n)

pub whole_as_slice-flag_with-4 : goal.whole_as_slice-flag_with-4
whole_as_slice-flag_with-4 g c = omega (arith, c.requires.6, room_most c.args.n)

pub whole_as_slice-flag_with-5 : goal.whole_as_slice-flag_with-5
whole_as_slice-flag_with-5 g c = omega (arith, c.requires.6, room_most c.args.n)

pub flag_with-requires : goal.flag_with-requires
flag_with-requires g c = let p = c.requires in
    let e = length-replicate g.row.ROOM 0 ∙ p.6 in
    (p.0, p.1, p.2, p.3, p.4, e, e, e, e, e, p.5)
