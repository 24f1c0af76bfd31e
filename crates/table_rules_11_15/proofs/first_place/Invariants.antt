-- Name by name, up to the first that shows something.
use mathlib.Core.Bool.{true}
use Prim.Native.Nat.{◌-◌}
use Rattle.paper_table.specs.Types.{table_of}
use Rattle.paper_table.specs.Promises.{promised_by}
use Rattle.table_members.specs.Members.{members_in, implemented_in}
use Rattle.table_rules_11_15.specs.Asked.{asked_of}
use Rattle.table_rules_13_15.proofs.Walking.{Walking}
use Rattle.table_rules_11_15.proofs.first_place.Given as goal

abbrev pub invariant-loop-f : goal.invariant-loop-f
invariant-loop-f l = Walking (promised_by (asked_of l.rule (table_of l.t) (members_in l.t l.from l.stop)) (table_of l.t)) (λ x. true) l.from l.stop l.i l.m (implemented_in l.t l.from l.stop) (implemented_in l.t l.i l.stop)

abbrev pub decreases-loop-f : goal.decreases-loop-f
decreases-loop-f l = l.stop - l.i
