-- One of the stack's numbers, which have 16 bits.
use native.Mathlib.Omega.{arith}
use Rattle.query_alike.proofs.model_at.Goals as goal

pub overflow_cast-result : goal.overflow_cast-result
overflow_cast-result c = omega (arith, c.shared_slice_known-1.given c.args.k)
