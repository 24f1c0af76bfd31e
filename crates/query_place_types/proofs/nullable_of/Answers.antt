-- By the lowest two bits.
use native.Mathlib.Omega.{arith}
use Rattle.query_place_types.proofs.ShapeLaws.{nullable_off, nullable_kept}
use Rattle.query_place_types.proofs.nullable_of.Goals as goal

pub returns-then-wrappers-eq-WRAP_NON_NULL : goal.returns-then-wrappers-eq-WRAP_NON_NULL
returns-then-wrappers-eq-WRAP_NON_NULL c = (nullable_off c.args.wrappers c.if-wrappers-eq-WRAP_NON_NULL.true, omega arith)

pub returns : goal.returns
returns c = (nullable_kept c.args.wrappers c.if-wrappers-eq-WRAP_NON_NULL.false, omega arith)
