-- Bounds inside bounds: from a later start on, or both ends inside.
use mathlib.Core.List.{List}
use Prim.Native.Nat.{ℕ, ◌≤◌}
use native.Mathlib.Omega.{arith}
use Rattle.table_fields.specs.Fields.{Bounds}

pub narrow : {t : List ℕ} {start end from to : ℕ} → Bounds t start end → from ≤ to → to ≤ end → Bounds t from to
narrow b order within = record { order = order; within = omega (arith, within, b.within); most = b.most }

pub later : {t : List ℕ} {start end from : ℕ} → Bounds t start end → from ≤ end → Bounds t from end
later b order = record { order = order; within = b.within; most = b.most }
