-- Record by record: the definitions that are not entered yet stand from here on.
use lib.ListN.{length}
use Prim.Native.Nat.{◌-◌}
use Rattle.table_types.proofs.Recording.{Recording}
use Rattle.table_types.proofs.records.Given as goal

abbrev pub invariant-loop-at : goal.invariant-loop-at
invariant-loop-at l = Recording l.t l.book l.at l.i

abbrev pub decreases-loop-at : goal.decreases-loop-at
decreases-loop-at l = length l.t - l.at
