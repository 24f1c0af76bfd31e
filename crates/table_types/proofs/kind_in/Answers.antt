-- By whether there is such an entry.
use mathlib.Core.Path.{◌∙◌}
use Prim.Native.Nat.{◌<◌, ◌≤◌}
use native.Mathlib.Omega.{arith}
use borrow.Author.Tests.{lt-ltb, le-ltb}
use Rattle.table_book.specs.Book.{count_in}
use Rattle.table_types.proofs.kind_in.Goals as goal

pub returns-then-i-count_of : goal.returns-then-i-count_of
returns-then-i-count_of c = let l : c.args.i < count_in c.args.book.now = omega (arith, c.if-i-count_of.true, c.count_of.ensures) in
    c.kind_of.ensures ∙ rw (lt-ltb _ _ l)

pub returns : goal.returns
returns c = let l : count_in c.args.book.now ≤ c.args.i = omega (arith, c.if-i-count_of.false, c.count_of.ensures) in
    rw (le-ltb _ _ l)
