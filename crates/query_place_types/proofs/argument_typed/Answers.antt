-- The argument's type is read off the entry where the search ends.
use native.Mathlib.Omega.{arith}
use Rattle.paper_query.specs.Constructs.{name_of}
use Rattle.table_entries.specs.Entries.{ArgumentAnswer}
use Rattle.query_rows.specs.Rowed.{doc_of}
use Rattle.query_rows.proofs.RowsIn.{rowed_sized, name_within}
use Rattle.query_place_types.proofs.FoundLaws.{argument_stands, argument_none, argument_kept}
use Rattle.query_place_types.proofs.argument_typed.Goals as goal

pub name_of-at-requires : goal.name_of-at-requires
name_of-at-requires c = rowed_sized c.requires.1

pub size_of-size-requires : goal.size_of-size-requires
size_of-size-requires c = rowed_sized c.requires.1

pub find_argument-e-requires : goal.find_argument-e-requires
find_argument-e-requires c = (c.requires.0, rw (c.name_of-at.ensures, c.size_of-size.ensures) (name_within c.args.s.now c.args.rows.now c.args.n c.requires.1 c.args.i))

pub returns-then-e-ge-NO_ENTRY : goal.returns-then-e-ge-NO_ENTRY
returns-then-e-ge-NO_ENTRY c =
    let hit : ArgumentAnswer c.args.t.now c.args.book.now c.args.es.now c.args.m (name_of (doc_of c.args.s.now c.args.rows.now c.args.n) c.args.i) c.find_argument-e.result = rw (← c.name_of-at.ensures, ← c.size_of-size.ensures) c.find_argument-e.ensures in
    λ m x a. argument_none c.args.t.now c.args.book.now c.args.es.now (name_of (doc_of c.args.s.now c.args.rows.now c.args.n) c.args.i) m.arguments _ (hit m x) c.unknown.result c.if-e-ge-NO_ENTRY.true c.unknown.ensures

pub entry_place-requires : goal.entry_place-requires
entry_place-requires c =
    let hit : ArgumentAnswer c.args.t.now c.args.book.now c.args.es.now c.args.m (name_of (doc_of c.args.s.now c.args.rows.now c.args.n) c.args.i) c.find_argument-e.result = rw (← c.name_of-at.ensures, ← c.size_of-size.ensures) c.find_argument-e.ensures in
    let w = c.requires.0 in
    argument_stands c.args.t.now c.args.book.now c.args.es.now (name_of (doc_of c.args.s.now c.args.rows.now c.args.n) c.args.i) w.member.arguments _ (hit w.member w.is) (omega arith)

pub returns : goal.returns
returns c =
    let hit : ArgumentAnswer c.args.t.now c.args.book.now c.args.es.now c.args.m (name_of (doc_of c.args.s.now c.args.rows.now c.args.n) c.args.i) c.find_argument-e.result = rw (← c.name_of-at.ensures, ← c.size_of-size.ensures) c.find_argument-e.ensures in
    λ m x a. argument_kept c.args.t.now c.args.book.now c.args.es.now (name_of (doc_of c.args.s.now c.args.rows.now c.args.n) c.args.i) m.arguments _ (hit m x) c.entry_place.result a (omega arith) c.entry_place.ensures
