-- Links, where spreads lead, one search.
use mathlib.Core.Path.{sym, ◌∙◌}
use native.Mathlib.Omega.{arith}
use Rattle.query_rows.proofs.Rooms.{room_enough, room_rows}
use Rattle.query_spreads.proofs.LinkLaws.{graph_of}
use Rattle.value_fields.proofs.ReachLaws.{zeros_stamped}
use Rattle.value_fields.proofs.search_spreads.Goals as goal

pub spreads-requires : goal.spreads-requires
spreads-requires c = let p = c.requires in
    (p.0, p.1, omega (arith, p.5, room_enough _ p.0.few), p.6)

pub reach-requires : goal.reach-requires
reach-requires c = let p = c.requires in
    let a = c.args in
    (graph_of a.s.now a.rows.now a.n p.0.few c.targets.ensures c.spreads.ensures, p.9, zeros_stamped a.s.now a.rows.now a.n a.op p.7, p.8)

pub reaches-requires : goal.reaches-requires
reaches-requires c = let p = c.requires in
    (p.1, c.reach.ensures, p.9, p.0.few, p.10)

pub shape_of-firstk : goal.shape_of-firstk
shape_of-firstk c = c.kinds.ensures.firsts ∙ sym c.requires.2

pub shape_of-nextk : goal.shape_of-nextk
shape_of-nextk c = c.kinds.ensures.nexts ∙ room_rows _ _ ∙ sym c.requires.3
