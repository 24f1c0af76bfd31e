use native.Mathlib.Omega.{arith}
use Rattle.query_rows.proofs.Rooms.{room_enough}
use Rattle.query_spreads.proofs.LinkLaws.{graph_of}
use Rattle.query_path_flags.proofs.flag_with.Goals as goal

pub spreads-requires : goal.spreads-requires
spreads-requires c = let p = c.requires in
    (p.0, c.owners.ensures, omega (arith, p.6, room_enough _ p.0.few), p.7)

pub flags-requires : goal.flags-requires
flags-requires c = let p = c.requires in
    let a = c.args in
    (record { rowed = p.0; family = p.1; placed = p.3; owned = c.owners.ensures }, p.2, graph_of a.s.now a.rows.now a.n p.0.few p.4 c.spreads.ensures, p.8, p.9, p.10)
