-- The first entry of the name is the first member of the name.
use Prim.Native.Nat.{◌<◌}
use native.Mathlib.Omega.{arith}
use Rattle.table_book.specs.Book.{part, count_in}
use Rattle.table_listing.proofs.Listing.{listed_found, listed_none}
use Rattle.table_listing.proofs.find_listed.Goals as goal

pub overflow_cast-result : goal.overflow_cast-result
overflow_cast-result c = let l : c.find_key-k.result < count_in c.args.book.now = omega (arith, c.if-k-count_of.true, c.count_of.ensures) in
    omega (arith, c.kind_of.ensures, (c.requires.0.entered c.find_key-k.result l).small)

pub returns-then-k-count_of : goal.returns-then-k-count_of
returns-then-k-count_of c = let a = c.args in
    let l : c.find_key-k.result < count_in a.book.now = omega (arith, c.if-k-count_of.true, c.count_of.ensures) in
    rw (c.kind_of.ensures, c.start_of.ensures, c.end_of.ensures) (listed_found a.t.now a.book.now a.from a.end c.requires.0 (part a.s.now a.at a.n) c.find_key-k.ensures l)

pub returns : goal.returns
returns c = let a = c.args in
    listed_none a.t.now a.book.now a.from a.end c.requires.0 (part a.s.now a.at a.n) c.find_key-k.ensures (omega (arith, c.if-k-count_of.false, c.count_of.ensures))
