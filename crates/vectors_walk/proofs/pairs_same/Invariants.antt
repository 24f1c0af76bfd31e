-- `vectors_walk::pairs_same` ends and is safe: each turn takes the next number.
use Prim.Native.Nat.{◌-◌}
use borrow.Author.Rules.{rules}
use Rattle.vectors_walk.proofs.pairs_same.Given as goal

abbrev pub invariant-loop-i : goal.invariant-loop-i
invariant-loop-i l = Unit

abbrev pub decreases-loop-i : goal.decreases-loop-i
decreases-loop-i l = 1028 - l.i
