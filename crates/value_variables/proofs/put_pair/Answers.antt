-- `value_variables::put_pair` meets its contract: the name, the value behind it, the head over both.
use mathlib.Core.Path.{refl}
use Prim.Native.Nat.{◌+◌}
use Rattle.std.proofs.lemmas.Result.{err_from_is_err_and}
use native.Mathlib.Omega.{arith}
use Rattle.paper_table.specs.TableNumbers.{tag_name}
use Rattle.paper_values.specs.Written.{house_field_bytes}
use Rattle.paper_values.specs.Values.{no_pairs}
use Rattle.table_book.specs.Book.{part}
use Rattle.query_rows.specs.Rowed.{doc_of}
use Rattle.paper_values.specs.Computed.{constant}
use Rattle.paper_values.specs.RowValues.{value_of_row}
use Rattle.value_held.specs.Given.{kinds_in}
use Rattle.value_writing.specs.Writing.{place_of}
use Rattle.value_writing.proofs.PlaceLaws.{room_after}
use Rattle.value_coerce.proofs.ValueLaws.{room_first}
use Rattle.value_coerce.proofs.ObjectLaws.{name_put}
use Rattle.value_variables.proofs.VariableLaws.{pair_stop, pair_done, pair_behind}
use Rattle.value_variables.proofs.put_pair.Goals as goal

pub put_field-middle-requires : goal.put_field-middle-requires
put_field-middle-requires c = room_first c.args.limit c.args.from _ c.args.out.now c.requires.5 c.place-start.ensures

pub value-requires : goal.value-requires
value-requires c = let p = c.requires in (
  p.0,
  p.1,
  p.2,
  room_after c.args.limit (house_field_bytes tag_name (part c.args.names.now c.args.at c.args.l)) (place_of c.args.limit (c.args.from + 3)) c.args.out.now _ _ (room_first c.args.limit c.args.from (place_of c.args.limit (c.args.from + 3)) c.args.out.now p.5 refl) c.put_field-middle.auto.out (name_put c.args.limit c.args.from _ _ c.args.out.now _ c.args.names.now c.args.at c.args.l _ refl c.place-start.ensures c.put_field-middle.ensures),
  p.3,
  record { ready = p.0; size = omega arith; pairs = no_pairs; holds = refl },
)

pub returns-in_err-e : goal.returns-in_err-e
returns-in_err-e c = let q = err_from_is_err_and c.from_residual.result c.from_residual.ensures.1 in λ text r e. rw (q.1, q.2, ← c.in_err-e.was) (pair_stop text c.args.limit c.args.from (part c.args.names.now c.args.at c.args.l) (constant (kinds_in c.args.t.now) (value_of_row text (doc_of c.args.s.now c.args.rows.now c.args.n) c.args.i) r) c.args.out.now _ _ _ c.value.result (c.value.ensures text r no_pairs e refl) _ c.in_err-e.was)

pub close-requires : goal.close-requires
close-requires c = pair_behind 0 c.args.limit c.args.from (part c.args.names.now c.args.at c.args.l) (constant (kinds_in c.args.t.now) (value_of_row 0 (doc_of c.args.s.now c.args.rows.now c.args.n) c.args.i) c.requires.3.ref) c.args.out.now _ _ _ c.value.result (c.value.ensures 0 c.requires.3.ref no_pairs c.requires.3.is refl) _ c.in_ok-e.was (name_put c.args.limit c.args.from _ _ c.args.out.now _ c.args.names.now c.args.at c.args.l _ refl c.place-start.ensures c.put_field-middle.ensures)
    (room_first c.args.limit c.args.from (place_of c.args.limit (c.args.from + 3)) c.args.out.now c.requires.5 refl) c.put_field-middle.auto.out c.value.auto.out

pub returns : goal.returns
returns c = λ text r e.
    pair_done text c.args.limit c.args.from (part c.args.names.now c.args.at c.args.l) (constant (kinds_in c.args.t.now) (value_of_row text (doc_of c.args.s.now c.args.rows.now c.args.n) c.args.i) r) c.args.out.now _ _ _ c.value.result (c.value.ensures text r no_pairs e refl) _ c.in_ok-e.was (name_put c.args.limit c.args.from _ _ c.args.out.now _ c.args.names.now c.args.at c.args.l _ refl c.place-start.ensures c.put_field-middle.ensures) _ _ c.requires.5.place c.close.ensures
