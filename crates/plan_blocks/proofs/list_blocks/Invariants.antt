-- Row by row.
use mathlib.Core.Path.{◌≡◌}
use Prim.Native.Nat.{◌≤◌}
use lib.ListN.{length}
use Rattle.query_rows.specs.Rowed.{doc_of}
use Rattle.plan_blocks.specs.Blocks.{BlocksTo}
use Rattle.plan_blocks.proofs.list_blocks.Given as goal

abbrev pub invariant-loop-i : goal.invariant-loop-i
invariant-loop-i l = BlocksTo (doc_of l.s l.rows l.n) l.o l.out l.m l.i × (length l.out ≡ length l.initial.out) × (l.i ≤ l.n)
