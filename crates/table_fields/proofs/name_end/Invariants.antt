-- From each byte on the name's bytes end at one place.
use mathlib.Core.Path.{◌≡◌}
use Prim.Native.Nat.{◌+◌}
use lib.Seq.{slice}
use Rattle.paper_table.specs.References.{name_size}
use Rattle.table_fields.proofs.name_end.Given as goal

abbrev pub invariant-loop-i : goal.invariant-loop-i
invariant-loop-i l = l.i + name_size (slice l.i l.end l.t) ≡ l.start + name_size (slice l.start l.end l.t)
