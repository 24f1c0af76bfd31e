-- `value_writing::put_bytes` meets its contract.
use mathlib.Core.Path.{refl}
use Prim.Native.Nat.{◌+◌}
use native.Mathlib.Omega.{arith}
use lib.ListN.{length}
use Rattle.value_writing.proofs.PlaceLaws.{put_in, put_over}
use Rattle.value_writing.proofs.put_bytes.Goals as goal

pub returns-then-limit-from : goal.returns-then-limit-from
returns-then-limit-from c = let a = c.args in put_over a.limit a.s.now a.from a.out.now a.out.now (omega (arith, c.if-limit-from.true))

pub returns-then-limit-from-2 : goal.returns-then-limit-from-2
returns-then-limit-from-2 c = let a = c.args in put_over a.limit a.s.now a.from a.out.now a.out.now (omega (arith, c.if-limit-from.false, c.if-limit-from-2.true))

pub returns : goal.returns
returns c = let a = c.args in
    put_in a.limit a.s.now a.from a.out.now _ (a.from + length a.s.now) refl (omega (arith, c.if-limit-from.false, c.if-limit-from-2.false)) c.copy.ensures
