-- By the bounds of a record's tag.
use native.Mathlib.Omega.{arith}
use borrow.Author.Tests.{le-leb, lt-leb}
use Rattle.table_sizes.proofs.is_record.Goals as goal

pub returns-then-k-lt-TAG_SCALAR : goal.returns-then-k-lt-TAG_SCALAR
returns-then-k-lt-TAG_SCALAR c = rw (lt-leb 1 c.args.k (omega arith))

pub returns-then-k-le-TAG_ROOTS : goal.returns-then-k-le-TAG_ROOTS
returns-then-k-le-TAG_ROOTS c = rw (le-leb 1 c.args.k (omega arith), le-leb c.args.k 8 (omega arith))

pub returns : goal.returns
returns c = rw (le-leb 1 c.args.k (omega arith), lt-leb c.args.k 8 (omega arith))
