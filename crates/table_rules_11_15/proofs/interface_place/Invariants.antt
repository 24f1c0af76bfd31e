-- Field by field, up to the first that shows something.
use Prim.Native.Nat.{◌-◌}
use Rattle.paper_table.specs.Types.{table_of}
use Rattle.table_members.specs.Members.{members_in}
use Rattle.table_types.specs.Sizes.{slim_member}
use Rattle.table_rules_11_15.specs.Asked.{asked_of}
use Rattle.table_rules_13_15.proofs.Walking.{Walking}
use Rattle.table_rules_11_15.proofs.interface_place.Given as goal

abbrev pub invariant-loop-f : goal.invariant-loop-f
invariant-loop-f l = Walking (asked_of l.rule (table_of l.t) (members_in l.t l.from l.stop) l.member) slim_member l.at l.end l.i l.p (members_in l.t l.at l.end) (members_in l.t l.i l.end)

abbrev pub decreases-loop-f : goal.decreases-loop-f
decreases-loop-f l = l.end - l.i
