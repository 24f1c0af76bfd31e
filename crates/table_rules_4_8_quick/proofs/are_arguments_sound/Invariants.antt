-- Argument by argument: if the others are sound, all are.
use Prim.Native.Nat.{◌-◌}
use Rattle.paper_table.specs.Types.{table_of}
use Rattle.table_members.specs.Members.{arguments_in}
use Rattle.table_rules_4_8_quick.specs.Sound.{argument_name, ArgumentSound}
use Rattle.table_rules_4_8_quick.proofs.SoundLaws.{Sounding}
use Rattle.table_rules_4_8_quick.proofs.are_arguments_sound.Given as goal

abbrev pub invariant-loop-f : goal.invariant-loop-f
invariant-loop-f l = Sounding argument_name (ArgumentSound (table_of l.t) (arguments_in l.t l.first l.end)) l.seen l.mark l.first l.end l.i l.a (arguments_in l.t l.first l.end) (arguments_in l.t l.i l.end)

abbrev pub decreases-loop-f : goal.decreases-loop-f
decreases-loop-f l = l.end - l.i
