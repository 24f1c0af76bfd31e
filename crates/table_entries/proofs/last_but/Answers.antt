-- Fewer bytes than asked for: the first.
use Prim.Native.Nat.{◌+◌, ◌-◌}
use mathlib.Core.Path.{◌≡◌}
use native.Mathlib.Omega.{arith}
use Rattle.table_entries.proofs.last_but.Goals as goal

pub returns-then-n-k : goal.returns-then-n-k
returns-then-n-k c = let a = c.args in let z : a.at + (a.n - a.k) ≡ a.at = omega arith in (rw z c.wide_byte.ensures.0, c.wide_byte.ensures.1)
