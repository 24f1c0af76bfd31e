use Rattle.table_rules_13_15.proofs.Walking.{Walking}
use Rattle.table_types.specs.Sizes.{slim_argument}
use Rattle.table_rules_13_15.specs.Asked.{failing}
use Rattle.table_members.specs.Members.{arguments_in}
use Rattle.paper_table.specs.Types.{argument_named}
use Rattle.paper_table.specs.Places.{part_argument_at}
use Rattle.paper_table.specs.Lists.{find, only_if}
use Prim.Native.Nat.{◌-◌}
use Rattle.table_rules_13_15.proofs.first_wrong.Given as goal

abbrev pub invariant-loop-f : goal.invariant-loop-f
invariant-loop-f l = Walking (λ x y. only_if (failing l.rule y (find (argument_named y.name) (arguments_in l.t l.from l.stop))) (part_argument_at l.member l.part x)) slim_argument l.at l.end l.i l.a (arguments_in l.t l.at l.end) (arguments_in l.t l.i l.end)

abbrev pub decreases-loop-f : goal.decreases-loop-f
decreases-loop-f l = l.end - l.i
