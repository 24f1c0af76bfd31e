-- `value_writing::put_null` meets its contract.
use mathlib.Core.Path.{refl}
use mathlib.Core.List.{[]}
use Prim.Native.Nat.{◌+◌}
use native.Mathlib.Omega.{arith}
use Rattle.paper_values.specs.Written.{house_field_bytes}
use Rattle.paper_values.specs.ValueNumbers.{tag_null}
use Rattle.value_writing.proofs.PlaceLaws.{put_in, put_over}
use Rattle.value_writing.proofs.put_null.Goals as goal

pub returns-then-limit-from : goal.returns-then-limit-from
returns-then-limit-from c = let a = c.args in put_over a.limit (house_field_bytes tag_null []) a.from a.out.now a.out.now (omega (arith, c.if-limit-from.true))

pub returns : goal.returns
returns c = let a = c.args in put_in a.limit (house_field_bytes tag_null []) a.from a.out.now _ (a.from + 3) refl (omega (arith, c.if-limit-from.false)) c.put_head.ensures
