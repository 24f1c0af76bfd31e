-- Whatever the seed.
use mathlib.Core.Path.{◌≡◌}
use Prim.Native.Nat.{◌<◌}
use lib.ListN.{length}
use Rattle.query_rows.specs.Rowed.{doc_of}
use Rattle.plan_keys.specs.Keyed.{Keyed}
use Rattle.plan_keys.proofs.number_keys.Given as goal

abbrev pub invariant-loop-seed : goal.invariant-loop-seed
invariant-loop-seed l = (length l.head ≡ length l.initial.head) × (length l.next ≡ length l.initial.next) × (length l.keys ≡ length l.initial.keys) × (0 < l.seed → Keyed (doc_of l.s l.rows l.n) l.keys)
