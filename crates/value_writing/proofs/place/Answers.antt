-- `value_writing::place` meets its contract.
use Rattle.value_writing.proofs.PlaceLaws.{place_in, place_over}
use Prim.Native.Nat.{◌+◌}
use Rattle.value_writing.proofs.place.Goals as goal

pub returns-then-limit-at : goal.returns-then-limit-at
returns-then-limit-at c = let a = c.args in place_over a.limit (a.at + a.len) c.if-limit-at.true

pub returns : goal.returns
returns c = let a = c.args in place_in a.limit (a.at + a.len) c.if-limit-at.false
