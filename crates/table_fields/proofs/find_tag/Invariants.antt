-- Field by field: the first of the tag is found from each place on, or it is here.
use Prim.Native.Nat.{◌-◌}
use Rattle.table_fields.proofs.FindLaws.{Seeks}
use Rattle.table_fields.proofs.find_tag.Given as goal

abbrev pub invariant-loop-i : goal.invariant-loop-i
invariant-loop-i l = Seeks l.t l.at l.end l.tag l.i

abbrev pub decreases-loop-i : goal.decreases-loop-i
decreases-loop-i l = l.end - l.i
