-- A house field is read as the definition splits it off.
use native.Mathlib.Omega.{arith}
use Prim.Native.Nat.{◌+◌}
use borrow.Author.Tests.{lt-ltb, le-ltb, le-leb, lt-leb}
use Rattle.table_fields.proofs.read_field.Goals as goal

pub returns-then-end-at-lt3 : goal.returns-then-end-at-lt3
returns-then-end-at-lt3 c = rw (lt-ltb _ _ c.if-end-at-lt3.true)

pub overflow_cast-n : goal.overflow_cast-n
overflow_cast-n c = omega (arith, c.shared_slice_known-1.given (c.args.at + 1))

pub overflow_mul-n : goal.overflow_mul-n
overflow_mul-n c = omega (arith, c.shared_slice_known-1.given (c.args.at + 1))

pub overflow_cast-n-2 : goal.overflow_cast-n-2
overflow_cast-n-2 c = omega (arith, c.shared_slice_known-2-1.given (c.args.at + 2))

pub overflow_add-n-3 : goal.overflow_add-n-3
overflow_add-n-3 c = omega (arith, c.shared_slice_known-2-1.given (c.args.at + 2), c.shared_slice_known-1.given (c.args.at + 1))

pub returns-then-n-end : goal.returns-then-n-end
returns-then-n-end c = rw (le-ltb _ _ c.if-end-at-lt3.false, le-leb _ _ c.if-n-end.true)

pub returns : goal.returns
returns c = rw (le-ltb _ _ c.if-end-at-lt3.false, lt-leb _ _ c.if-n-end.false)
