-- Field by field: if the rest is kept, all is.
use mathlib.Core.Path.{◌≡◌}
use mathlib.Core.Bool.{true}
use Prim.Native.Nat.{◌-◌}
use Rattle.paper_table.specs.Lists.{all_of}
use Rattle.paper_table.specs.Types.{table_of}
use Rattle.table_members.specs.Members.{members_in}
use Rattle.table_types.specs.Sizes.{slim_member}
use Rattle.table_rules_11_15_quick.specs.Keeping.{FieldKept}
use Rattle.table_rules_11_15_quick.proofs.KeepingLaws.{Holding}
use Rattle.table_rules_11_15_quick.proofs.is_interface_kept.Given as goal

abbrev pub invariant-loop-f : goal.invariant-loop-f
invariant-loop-f l = Holding (FieldKept (table_of l.t) (members_in l.t l.from l.stop)) l.end l.i (members_in l.t l.at l.end) (members_in l.t l.i l.end) × (all_of slim_member (members_in l.t l.i l.end) ≡ true)

abbrev pub decreases-loop-f : goal.decreases-loop-f
decreases-loop-f l = l.end - l.i
