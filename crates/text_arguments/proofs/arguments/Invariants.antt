-- `text_arguments` is the machine at Arguments: at each turn of its loop an argument is to be read.
use Prim.Native.Nat.{◌-◌}
use lib.ListN.{length}
use Rattle.text_arguments.specs.Passed.{Passed, shut}
use Rattle.text_arguments.proofs.ArgumentsLaws.{one_more}
use Rattle.text_arguments.proofs.arguments.Given as goal

abbrev pub invariant-loop-next : goal.invariant-loop-next
invariant-loop-next l = Passed 0 l.s l.initial.rows l.rows l.initial.d l.d l.parent (l.left - 1) (l.left - 1) shut shut one_more one_more

abbrev pub decreases-loop-next : goal.decreases-loop-next
decreases-loop-next l = length l.s - l.d.stop
