-- `value_ones::nullable` meets its contract: of a type with these wrappers one is left that is the same without Non-Null outside.
use mathlib.Core.Path.{◌≡◌}
use Prim.Native.Nat.{◌≤◌}
use Rattle.paper_table.specs.References.{Ref}
use Rattle.table_fields.specs.Wrappers.{pack_of}
use Rattle.value_ones.specs.Ones.{nullable_of}
use Rattle.value_ones.proofs.nullable.Given as goal

abbrev pub invariant-loop-rest : goal.invariant-loop-rest
invariant-loop-rest l = (l.rest ≤ l.wrappers) × ((r : Ref) → pack_of r ≡ l.wrappers → (q : Ref) × (pack_of q ≡ l.rest) × (nullable_of q ≡ nullable_of r))

abbrev pub decreases-loop-rest : goal.decreases-loop-rest
decreases-loop-rest l = l.rest
