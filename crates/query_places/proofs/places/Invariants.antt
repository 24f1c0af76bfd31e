-- Row by row.
use Rattle.query_places.specs.Placed.{PlacedTo}
use Rattle.query_places.proofs.places.Given as goal

abbrev pub invariant-loop-i : goal.invariant-loop-i
invariant-loop-i l = PlacedTo l.t l.book l.es l.s l.rows l.n l.at l.wrappers l.i
