-- `text_variables::variable_definitions` meets its contract: the loop has read i definitions, and what is left of the text falls.
use Prim.Native.Nat.{◌-◌}
use lib.ListN.{length}
use Rattle.text_variables.proofs.VariablesLaws.{Turns}
use Rattle.text_variables.proofs.variable_definitions.Given as goal

abbrev pub invariant-loop-next : goal.invariant-loop-next
invariant-loop-next l = Turns l.s l.initial.rows l.rows l.initial.d l.d l.parent (l.left - 1) l.i

abbrev pub decreases-loop-next : goal.decreases-loop-next
decreases-loop-next l = length l.s - l.d.stop
