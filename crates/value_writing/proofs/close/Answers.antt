-- `value_writing::close` meets its contract.
use mathlib.Core.Path.{refl}
use Prim.Native.Nat.{◌≤◌}
use native.Mathlib.Omega.{arith}
use Rattle.value_writing.proofs.close.Goals as goal

pub returns-then-limit-at : goal.returns-then-limit-at
returns-then-limit-at c = let a = c.args in (refl, λ (l : a.at ≤ a.limit). absurd (omega (arith, l, c.if-limit-at.true)))

pub overflow_sub-at : goal.overflow_sub-at
overflow_sub-at c = omega (arith, c.requires.order c.if-limit-at.false)

pub overflow_sub-at-2 : goal.overflow_sub-at-2
overflow_sub-at-2 c = omega (arith, c.requires.order c.if-limit-at.false)

pub put_head-requires : goal.put_head-requires
put_head-requires c = (omega (arith, c.requires.order c.if-limit-at.false, c.requires.size, c.requires.least, c.if-limit-at.false), omega (arith, c.requires.order c.if-limit-at.false, c.requires.size, c.requires.least, c.if-limit-at.false))
