-- By the bounds of a record's tag.
use native.Mathlib.Omega.{arith}
use borrow.Author.Tests.{le-leb, lt-leb, eq-eqb, ne_eqb}
use Rattle.table_framing.proofs.record_in_place.Goals as goal

pub returns-then-k-lt-TAG_SCALAR : goal.returns-then-k-lt-TAG_SCALAR
returns-then-k-lt-TAG_SCALAR c = rw (lt-leb 1 c.args.k (omega arith))

pub returns-then-k-gt-TAG_ROOTS : goal.returns-then-k-gt-TAG_ROOTS
returns-then-k-gt-TAG_ROOTS c = rw (le-leb 1 c.args.k (omega arith), lt-leb c.args.k 8 (omega arith))

pub returns-then-k-eq-TAG_ROOTS : goal.returns-then-k-eq-TAG_ROOTS
returns-then-k-eq-TAG_ROOTS c = rw (le-leb 1 c.args.k (omega arith), le-leb c.args.k 8 (omega arith), eq-eqb c.args.k 8 c.if-k-eq-TAG_ROOTS.true)

pub returns : goal.returns
returns c = rw (le-leb 1 c.args.k (omega arith), le-leb c.args.k 8 (omega arith), ne_eqb c.args.k 8 c.if-k-eq-TAG_ROOTS.false)
