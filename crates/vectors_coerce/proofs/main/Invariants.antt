-- `vectors_coerce::main` ends and is safe: each turn takes the next case.
use Prim.Native.Nat.{◌-◌}
use borrow.Author.Rules.{rules}
use Rattle.vectors_coerce.proofs.main.Given as goal

abbrev pub invariant-loop-n : goal.invariant-loop-n
invariant-loop-n l = Unit

abbrev pub decreases-loop-n : goal.decreases-loop-n
decreases-loop-n l = 2000 - l.n
