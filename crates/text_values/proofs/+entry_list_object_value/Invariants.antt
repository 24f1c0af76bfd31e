-- value, list, object and entry call each other: the levels left fall where a mark opens, and within a level entry is above value, and value above list and object.
use Prim.Native.Nat.{◌+◌, ◌-◌, ◌*◌}
use lib.ListN.{length}
use Rattle.paper.specs.Language.{bracket_r, brace_r}
use Rattle.text_values.proofs.NestLaws.{InNest}
use Rattle.text_values.proofs.NestParts.{values_part, fields_part}
use Rattle.text_values.proofs.+entry_list_object_value.Given as goal

abbrev pub decreases-entry : goal.decreases-entry
decreases-entry l = 3 * l.left + 2

abbrev pub decreases-list : goal.decreases-list
decreases-list l = 3 * l.left

abbrev pub decreases-object : goal.decreases-object
decreases-object l = 3 * l.left

abbrev pub decreases-value : goal.decreases-value
decreases-value l = 3 * l.left + 1

abbrev pub invariant-list-loop-rows : goal.invariant-list-loop-rows
invariant-list-loop-rows l = InNest l.s l.initial.rows l.rows l.initial.d l.d l.n (l.left - 1) (values_part l.constant) bracket_r

abbrev pub decreases-list-loop-rows : goal.decreases-list-loop-rows
decreases-list-loop-rows l = length l.s - l.d.stop

abbrev pub invariant-object-loop-rows : goal.invariant-object-loop-rows
invariant-object-loop-rows l = InNest l.s l.initial.rows l.rows l.initial.d l.d l.n (l.left - 1) (fields_part l.constant) brace_r

abbrev pub decreases-object-loop-rows : goal.decreases-object-loop-rows
decreases-object-loop-rows l = length l.s - l.d.stop
