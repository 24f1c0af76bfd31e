-- `directives` is the machine at Directives: at each turn of its loop one more is to be read.
use mathlib.Core.Path.{◌≡◌}
use Prim.Native.Nat.{◌-◌}
use lib.ListN.{length}
use Rattle.paper.specs.Language.{at_sign}
use Rattle.text_scan.specs.Head.{kind_of}
use Rattle.text_arguments.specs.Arguments.{directives_stack}
use Rattle.text_arguments.specs.Passed.{Passed, shut}
use Rattle.text_arguments.proofs.DirectivesLaws.{some_more}
use Rattle.text_arguments.proofs.directives.Given as goal

abbrev pub invariant-loop-next : goal.invariant-loop-next
invariant-loop-next l = Passed 0 l.s l.initial.rows l.rows l.initial.d l.d l.parent l.left l.left shut shut directives_stack some_more × (l.d.kind ≡ kind_of at_sign)

abbrev pub decreases-loop-next : goal.decreases-loop-next
decreases-loop-next l = length l.s - l.d.stop
