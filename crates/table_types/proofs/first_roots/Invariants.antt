-- A walk over the tags.
use Rattle.paper_table.specs.Types.{table_of, is_roots}
use Rattle.table_types.proofs.Entries.{Reached}
use Rattle.table_types.proofs.first_roots.Given as goal

abbrev pub invariant-loop-i : goal.invariant-loop-i
invariant-loop-i l = Reached is_roots (table_of l.t) l.i
