-- The spans of the definitions so far stand, and there is room for the rest.
use Rattle.table_entries.proofs.Spans.{Spanning}
use Rattle.table_entries.proofs.fill_entries.Given as goal

abbrev pub invariant-loop-i : goal.invariant-loop-i
invariant-loop-i l = Spanning l.t l.book l.initial.es l.es l.i l.e
