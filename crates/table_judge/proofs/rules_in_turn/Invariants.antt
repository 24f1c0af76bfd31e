-- A walk over the rules.
use Prim.Native.Nat.{◌-◌}
use Rattle.paper_table.specs.Types.{table_of}
use Rattle.table_types.specs.Booked.{definition_on}
use Rattle.table_judge.proofs.BreakLaws.{InTurn}
use Rattle.table_judge.proofs.rules_in_turn.Given as goal

abbrev pub invariant-loop-rule : goal.invariant-loop-rule
invariant-loop-rule l = InTurn (table_of l.t) l.i (definition_on l.t l.i) l.rule

abbrev pub decreases-loop-rule : goal.decreases-loop-rule
decreases-loop-rule l = 17 - l.rule
