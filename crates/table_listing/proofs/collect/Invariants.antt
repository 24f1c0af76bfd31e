-- Member by member: those that are not entered yet stand from here on.
use Prim.Native.Nat.{◌-◌}
use Rattle.table_listing.proofs.Listing.{Collecting}
use Rattle.table_listing.proofs.collect.Given as goal

abbrev pub invariant-loop-f : goal.invariant-loop-f
invariant-loop-f l = Collecting l.t l.book l.from l.end l.at l.i

abbrev pub decreases-loop-f : goal.decreases-loop-f
decreases-loop-f l = l.end - l.at
