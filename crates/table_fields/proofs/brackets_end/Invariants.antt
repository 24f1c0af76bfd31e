-- From each byte on the brackets end at one place.
use mathlib.Core.Path.{◌≡◌}
use Prim.Native.Nat.{◌+◌}
use lib.Seq.{slice}
use Rattle.table_fields.specs.Wrappers.{bracket_size}
use Rattle.table_fields.proofs.brackets_end.Given as goal

abbrev pub invariant-loop-i : goal.invariant-loop-i
invariant-loop-i l = l.i + bracket_size (slice l.i l.end l.t) ≡ l.start + bracket_size (slice l.start l.end l.t)
