-- Along the bucket of row i's key.
use Rattle.query_rows.specs.Rowed.{doc_of}
use Rattle.plan_keys.proofs.Seeking.{Seeks}
use Rattle.plan_keys.proofs.find_key.Given as goal

abbrev pub invariant-loop-k : goal.invariant-loop-k
invariant-loop-k l = Seeks (doc_of l.s l.rows l.n) l.seed l.i l.h l.k

abbrev pub decreases-loop-k : goal.decreases-loop-k
decreases-loop-k l = l.k
