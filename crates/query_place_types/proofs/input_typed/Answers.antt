-- The input field's type is read off the entry where the search ends.
use native.Mathlib.Omega.{arith}
use Rattle.paper_query.specs.Constructs.{name_of}
use Rattle.table_types.specs.Booked.{definition_on}
use Rattle.table_entries.specs.Entries.{room_entries, Hit}
use Rattle.query_rows.specs.Rowed.{doc_of}
use Rattle.query_rows.proofs.RowsIn.{rowed_sized, name_within}
use Rattle.query_place_types.proofs.FoundLaws.{input_stands, input_none, input_kept}
use Rattle.query_place_types.proofs.input_typed.Goals as goal

pub name_of-at-requires : goal.name_of-at-requires
name_of-at-requires c = rowed_sized c.requires.5

pub size_of-size-requires : goal.size_of-size-requires
size_of-size-requires c = rowed_sized c.requires.5

pub find_member-e-requires : goal.find_member-e-requires
find_member-e-requires c = (c.requires.0, c.requires.1, c.requires.2, c.requires.3, rw (c.name_of-at.ensures, c.size_of-size.ensures) (name_within c.args.s.now c.args.rows.now c.args.n c.requires.5 c.args.i))

pub returns-then-e-ge-NO_ENTRY : goal.returns-then-e-ge-NO_ENTRY
returns-then-e-ge-NO_ENTRY c =
    let hit : Hit c.args.t.now c.args.book.now c.args.es.now room_entries (name_of (doc_of c.args.s.now c.args.rows.now c.args.n) c.args.i) (definition_on c.args.t.now c.args.k).members c.find_member-e.result = rw (← c.name_of-at.ensures, ← c.size_of-size.ensures) c.find_member-e.ensures in
    input_none c.args.t.now c.args.book.now c.args.es.now (name_of (doc_of c.args.s.now c.args.rows.now c.args.n) c.args.i) (definition_on c.args.t.now c.args.k).members _ hit c.unknown.result c.if-e-ge-NO_ENTRY.true c.unknown.ensures

pub entry_place-requires : goal.entry_place-requires
entry_place-requires c =
    let hit : Hit c.args.t.now c.args.book.now c.args.es.now room_entries (name_of (doc_of c.args.s.now c.args.rows.now c.args.n) c.args.i) (definition_on c.args.t.now c.args.k).members c.find_member-e.result = rw (← c.name_of-at.ensures, ← c.size_of-size.ensures) c.find_member-e.ensures in
    input_stands c.args.t.now c.args.book.now c.args.es.now (name_of (doc_of c.args.s.now c.args.rows.now c.args.n) c.args.i) (definition_on c.args.t.now c.args.k).members _ hit (omega arith)

pub returns : goal.returns
returns c =
    let hit : Hit c.args.t.now c.args.book.now c.args.es.now room_entries (name_of (doc_of c.args.s.now c.args.rows.now c.args.n) c.args.i) (definition_on c.args.t.now c.args.k).members c.find_member-e.result = rw (← c.name_of-at.ensures, ← c.size_of-size.ensures) c.find_member-e.ensures in
    input_kept c.args.t.now c.args.book.now c.args.es.now (name_of (doc_of c.args.s.now c.args.rows.now c.args.n) c.args.i) (definition_on c.args.t.now c.args.k).members _ hit c.entry_place.result c.requires.4 (omega arith) c.entry_place.ensures
