-- Its own rank where many may be, else the next.
use mathlib.Core.Bool.{Bool, true, false, cond}
use Prim.Native.Nat.{ℕ, ◌*◌, ◌<◌}
use native.Mathlib.Omega.{arith}
use lib.Dec.{eqb}
use borrow.Author.Tests.{le-leb, lt-leb, eq-eqb, ne_eqb}
use Rattle.table_framing.specs.Holders.{rank}
use Rattle.table_framing.proofs.least_after.Goals as goal

small : (k : ℕ) → k < 256 → rank k < 512
small k h = go (eqb k 20)
  where
    go : (b : Bool) → cond b 37 (2 * k) < 512
    go true = omega arith
    go false = omega arith

pub overflow_add-result : goal.overflow_add-result
overflow_add-result c = let q = c.rank_of-rank.ensures in let h = small c.args.k (omega arith) in omega (arith, q, h)

pub returns-then-k-lt-TAG_IMPLEMENTS : goal.returns-then-k-lt-TAG_IMPLEMENTS
returns-then-k-lt-TAG_IMPLEMENTS c = rw (c.rank_of-rank.ensures, lt-leb 17 c.args.k (omega arith))

pub overflow_add-result-then-k-gt-TAG_ENUM_VALUE : goal.overflow_add-result-then-k-gt-TAG_ENUM_VALUE
overflow_add-result-then-k-gt-TAG_ENUM_VALUE c = let q = c.rank_of-rank.ensures in let h = small c.args.k (omega arith) in omega (arith, q, h)

pub returns-then-k-gt-TAG_ENUM_VALUE : goal.returns-then-k-gt-TAG_ENUM_VALUE
returns-then-k-gt-TAG_ENUM_VALUE c = rw (c.rank_of-rank.ensures, le-leb 17 c.args.k (omega arith), lt-leb c.args.k 22 (omega arith))

pub overflow_add-result-then-k-eq-TAG_REFERENCE : goal.overflow_add-result-then-k-eq-TAG_REFERENCE
overflow_add-result-then-k-eq-TAG_REFERENCE c = let q = c.rank_of-rank.ensures in let h = small c.args.k (omega arith) in omega (arith, q, h)

pub returns-then-k-eq-TAG_REFERENCE : goal.returns-then-k-eq-TAG_REFERENCE
returns-then-k-eq-TAG_REFERENCE c = rw (c.rank_of-rank.ensures, eq-eqb _ _ c.if-k-eq-TAG_REFERENCE.true, le-leb 17 c.args.k (omega arith), le-leb c.args.k 22 (omega arith))

pub returns : goal.returns
returns c = rw (c.rank_of-rank.ensures, ne_eqb _ _ c.if-k-eq-TAG_REFERENCE.false, le-leb 17 c.args.k (omega arith), le-leb c.args.k 22 (omega arith))
