-- `value_ones::lists_in` meets its contract: of a type with these wrappers, m lists are counted and a type with w is left.
use mathlib.Core.Path.{◌≡◌}
use Prim.Native.Nat.{◌+◌, ◌≤◌}
use Rattle.paper_table.specs.References.{Ref}
use Rattle.table_fields.specs.Wrappers.{pack_of}
use Rattle.value_ones.specs.Ones.{lists_of}
use Rattle.value_ones.proofs.lists_in.Given as goal

abbrev pub invariant-loop-w : goal.invariant-loop-w
invariant-loop-w l = (l.m + l.w ≤ l.wrappers) × ((r : Ref) → pack_of r ≡ l.wrappers → (q : Ref) × (pack_of q ≡ l.w) × (l.m + lists_of q ≡ lists_of r))

abbrev pub decreases-loop-w : goal.decreases-loop-w
decreases-loop-w l = l.w
