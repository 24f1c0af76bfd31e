-- `value_variables::in_order` meets its contract: before row v the definitions before it are coerced.
use mathlib.Core.Path.{◌≡◌}
use lib.ListN.{length}
use Rattle.value_variables.proofs.LoopLaws.{Going}
use Rattle.value_variables.proofs.in_order.Given as goal

abbrev pub invariant-loop-v : goal.invariant-loop-v
invariant-loop-v l = Going l.t l.book l.s l.rows l.n l.s1 l.rows1 l.n1 l.limit l.from l.op l.initial.out l.held l.out l.at l.many l.v × (length l.held ≡ length l.initial.held) × (length l.out ≡ length l.initial.out)
