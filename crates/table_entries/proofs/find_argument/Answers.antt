-- A member without arguments for each argument: the search is the same.
use Rattle.table_book.specs.Book.{part}
use Rattle.table_entries.proofs.Finds.{arguments_stand, argument_hit, argument_none}
use Rattle.table_entries.proofs.find_argument.Goals as goal

pub find-k-requires : goal.find-k-requires
find-k-requires c = let a = c.args in
    let p = c.requires in
    (arguments_stand a.t.now a.book.now a.es.now a.e p.0 _ c.cell_of-end.ensures, p.1)

pub returns-then-k-end : goal.returns-then-k-end
returns-then-k-end c = let a = c.args in
    let p = c.requires in
    argument_hit a.t.now a.book.now a.es.now a.e p.0 (part a.s.now a.at a.n) _ _ c.cell_of-end.ensures c.find-k.ensures c.if-k-end.true

pub returns : goal.returns
returns c = let a = c.args in
    let p = c.requires in
    argument_none a.t.now a.book.now a.es.now a.e p.0 (part a.s.now a.at a.n) _ _ c.cell_of-end.ensures c.find-k.ensures c.if-k-end.false
