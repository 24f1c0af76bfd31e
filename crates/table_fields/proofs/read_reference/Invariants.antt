-- Brackets, a name, then wrapper by wrapper: a reference has been read, and the rest of the text decides.
use Rattle.table_fields.proofs.RefLaws.{Wrapped}
use Rattle.table_fields.proofs.read_reference.Given as goal

abbrev pub invariant-loop-i : goal.invariant-loop-i
invariant-loop-i l = Wrapped l.t l.start l.end l.from l.to l.wrappers l.lists l.i
