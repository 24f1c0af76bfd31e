-- Nothing is implemented, or the members are listed.
use mathlib.Core.Path.{◌≡◌, sym}
use mathlib.Core.Bool.{Bool, true, false, not, false≢true}
use mathlib.Core.List.{List, []}
use Prim.Native.Nat.{ℕ}
use Rattle.std.specs.Prelude.{Option, Some, None}
use Rattle.std.specs.Option.{is_some}
use Rattle.table_fields.specs.declared.Field.{Field}
use Rattle.table_members.specs.Members.{NextImplemented, implemented_in}
use Rattle.table_types.proofs.Entries.{bounds_entered}
use Rattle.table_types.proofs.Objects.{number_room}
use Rattle.table_judge.proofs.PromiseLaws.{listable, listed_at, promising_none, promising_some}
use Rattle.table_judge.proofs.list_promises.Goals as goal

pub start_of-start-requires : goal.start_of-start-requires
start_of-start-requires c = (c.requires.0.booked.indexed.held.cells, number_room _ _ c.requires.0.booked _ c.requires.2)

pub end_of-end-requires : goal.end_of-end-requires
end_of-end-requires c = (c.requires.0.booked.indexed.held.cells, number_room _ _ c.requires.0.booked _ c.requires.2)

pub next_implemented-requires : goal.next_implemented-requires
next_implemented-requires c = let a = c.args in
    bounds_entered a.t.now a.book.now c.requires.0.booked a.i c.requires.2 _ _ c.start_of-start.ensures c.end_of-end.ensures

none_next : (t : List ℕ) (at end : ℕ) (r : Option Field) (b : Bool) → not b ≡ is_some r → b ≡ true → NextImplemented t at end r → implemented_in t at end ≡ []
none_next t at end None b q h e = e
none_next t at end (Some f) true q h e = absurd (false≢true q)
none_next t at end (Some f) false q h e = absurd (false≢true h)

pub returns-then-is_none : goal.returns-then-is_none
returns-then-is_none c = let a = c.args in
    promising_none a.t.now a.book.now c.requires.0 a.i c.requires.2 _ _ c.start_of-start.ensures c.end_of-end.ensures _ c.requires.3 (none_next a.t.now c.start_of-start.result c.end_of-end.result c.next_implemented.result c.is_none.result (sym c.is_none.ensures) c.if-is_none.true c.next_implemented.ensures)

pub list_members-requires : goal.list_members-requires
list_members-requires c = let a = c.args in
    listable a.t.now a.book.now c.requires.0 a.i c.requires.2 _ _ c.start_of-start.ensures c.end_of-end.ensures _ c.requires.3

pub is_all_kept-requires : goal.is_all_kept-requires
is_all_kept-requires c = let a = c.args in
    let p = c.requires in
    (p.0.booked, p.1, p.0.slim, p.2, listed_at a.t.now a.book.now p.0 a.i p.2 _ _ c.start_of-start.ensures c.end_of-end.ensures _ c.list_members.ensures)

pub returns : goal.returns
returns c = let a = c.args in
    promising_some a.t.now a.book.now c.requires.0 a.i c.requires.2 _ _ c.start_of-start.ensures c.end_of-end.ensures _ _ c.list_members.ensures c.is_all_kept.ensures
