-- Record 8's member of the kind's tag; without record 8 the query root alone.
use mathlib.Core.Path.{subst}
use Prim.Native.Nat.{◌+◌, ◌<◌}
use native.Mathlib.Omega.{arith}
use Rattle.paper_table.specs.TableNumbers.{tag_query_root}
use Rattle.table_book.specs.Book.{count_in}
use Rattle.table_types.proofs.Objects.{entry_bounds}
use Rattle.query_roots.specs.Rooted.{FindTagged}
use Rattle.query_roots.proofs.RootLaws.{query_root, by_no_root, written_root, unwritten_root}
use Rattle.query_roots.proofs.find_root.Goals as goal

pub returns-then-x-eq0 : goal.returns-then-x-eq0
returns-then-x-eq0 c = let a = c.args in
    query_root a.t.now a.book.now c.requires c.first_roots-k.result c.first_roots-k.ensures (omega (arith, c.if-count_of-k.true, c.count_of.ensures)) a.x c.if-x-eq0.true

pub returns-then-count_of-k : goal.returns-then-count_of-k
returns-then-count_of-k c = let a = c.args in
    by_no_root a.t.now a.book.now c.requires c.first_roots-k.result c.first_roots-k.ensures (omega (arith, c.if-count_of-k.true, c.count_of.ensures)) a.x c.if-x-eq0.false

pub find_tagged-requires : goal.find_tagged-requires
find_tagged-requires c =
    let written : c.first_roots-k.result < count_in c.args.book.now = omega (arith, c.if-count_of-k.false, c.count_of.ensures) in
    let a = c.args in
    entry_bounds a.t.now a.book.now c.requires c.first_roots-k.result written c.start_of.ensures c.end_of.ensures

pub returns-in_default : goal.returns-in_default
returns-in_default c =
    let written : c.first_roots-k.result < count_in c.args.book.now = omega (arith, c.if-count_of-k.false, c.count_of.ensures) in
    let a = c.args in
    unwritten_root a.t.now a.book.now c.requires c.first_roots-k.result c.first_roots-k.ensures written c.start_of.result c.end_of.result c.start_of.ensures c.end_of.ensures a.x (subst (FindTagged a.t.now c.start_of.result c.end_of.result (tag_query_root + a.x)) c.in_default.is c.find_tagged.ensures)

pub returns : goal.returns
returns c =
    let written : c.first_roots-k.result < count_in c.args.book.now = omega (arith, c.if-count_of-k.false, c.count_of.ensures) in
    let a = c.args in
    written_root a.t.now a.book.now c.requires c.first_roots-k.result c.first_roots-k.ensures written c.start_of.result c.end_of.result c.start_of.ensures c.end_of.ensures a.x _ _ _ (subst (FindTagged a.t.now c.start_of.result c.end_of.result (tag_query_root + a.x)) c.in-Some.is c.find_tagged.ensures)
