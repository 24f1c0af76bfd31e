-- Name by name: if the rest is kept, all is.
use Prim.Native.Nat.{◌-◌}
use Rattle.paper_table.specs.Types.{table_of}
use Rattle.table_members.specs.Members.{members_in, implemented_in}
use Rattle.table_rules_11_15_quick.specs.Keeping.{NameKept}
use Rattle.table_rules_11_15_quick.proofs.KeepingLaws.{Holding}
use Rattle.table_rules_11_15_quick.proofs.is_all_kept.Given as goal

abbrev pub invariant-loop-f : goal.invariant-loop-f
invariant-loop-f l = Holding (NameKept (table_of l.t) (members_in l.t l.from l.stop)) l.stop l.i (implemented_in l.t l.from l.stop) (implemented_in l.t l.i l.stop)

abbrev pub decreases-loop-f : goal.decreases-loop-f
decreases-loop-f l = l.stop - l.i
