-- The cycle of calls of selection sets is the machine at SelectionSet: four times the levels left, and a constant for each function, fall at
-- each call; at each turn of the loop a selection is to be read.
use Prim.Native.Nat.{◌+◌, ◌-◌, ◌*◌}
use lib.ListN.{length}
use Rattle.text_arguments.specs.Passed.{Passed, shut}
use Rattle.text_selections.proofs.SetLaws.{one_more}
use Rattle.text_selections.proofs.+body_field_selection_selection_set_spread.Given as goal

abbrev pub decreases-body : goal.decreases-body
decreases-body l = 4 * l.left + 1

abbrev pub decreases-field : goal.decreases-field
decreases-field l = 4 * l.left + 2

abbrev pub decreases-selection : goal.decreases-selection
decreases-selection l = 4 * l.left + 3

abbrev pub decreases-selection_set : goal.decreases-selection_set
decreases-selection_set l = 4 * l.left

abbrev pub decreases-spread : goal.decreases-spread
decreases-spread l = 4 * l.left + 2

abbrev pub invariant-selection_set-loop-next : goal.invariant-selection_set-loop-next
invariant-selection_set-loop-next l = Passed 0 l.s l.initial.rows l.rows l.initial.d l.d l.parent (l.left - 1) (l.left - 1) shut shut one_more one_more

abbrev pub decreases-selection_set-loop-next : goal.decreases-selection_set-loop-next
decreases-selection_set-loop-next l = length l.s - l.d.stop
