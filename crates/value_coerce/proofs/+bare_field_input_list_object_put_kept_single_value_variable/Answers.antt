-- The proof of the cycle of calls {value, variable, put_kept, single, bare, input, list, object, field}: the levels left fall, with 34 levels for each variable;
-- eight times that, since a value goes through several functions at one level. Assumes nothing.
use mathlib.Core.Path.{◌≡◌, refl, sym, subst, ◌∙◌}
use mathlib.Core.Logic.{◌⊎◌}
use mathlib.Core.Bool.{Bool}
use Prim.Native.Nat.{◌+◌, ◌*◌}
use native.Mathlib.Omega.{arith}
use Rattle.table_fields.proofs.BoundsLaws.{later, narrow}
use borrow.Author.Tests.{leb-true}
use Rattle.paper.specs.Numbers.{kind_null, kind_variable, most_wrappers}
use Rattle.paper_table.specs.References.{base_of, named}
use Rattle.paper_table.specs.TableNumbers.{tag_name}
use Rattle.paper_table.proofs.ReferenceSizes.{wrappers as wrapperCount}
use Rattle.paper_query.specs.Constructs.{name_of}
use Rattle.table_members.specs.Members.{member_from}
use Rattle.table_types.proofs.Objects.{number_room, entry_bounds}
use Rattle.query_rows.specs.Rowed.{doc_of, row_in, Decides}
use Rattle.query_rows.proofs.RowsIn.{rows_count, rowed_sized}
use Rattle.paper_values.specs.Written.{house_field_bytes}
use Rattle.paper_values.specs.Kinds.{due_of}
use Rattle.paper_values.specs.ValueNumbers.{reason_kind}
use Rattle.paper_values.specs.Values.{no_pairs}
use Rattle.paper_values.specs.Coercion.{value_in}
use Rattle.paper_values.specs.RowValues.{value_at}
use Rattle.value_writing.specs.Writing.{place_of}
use Rattle.value_writing.proofs.PlaceLaws.{room_after}
use Rattle.std.proofs.Common.{Ok}
use Rattle.std.proofs.lemmas.Result.{err_from_is_err_and}
use Rattle.value_kinds.specs.Dues.{refused}
use Rattle.value_kinds.proofs.KindLaws.{due_is}
use Rattle.value_entries.specs.Entered.{dues_by}
use Rattle.value_held.specs.Given.{coerced}
use Rattle.value_coerce.specs.Coercing.{stepped}
use Rattle.value_held.proofs.HoldingLaws.{looked, knows, names, held_due, held_row0, held_row1}
use Rattle.value_coerce.proofs.KeptLaws.{stood_as, kept_null, kept_full, kept_value}
use Rattle.value_coerce.proofs.ValueLaws.{told_none, told_null, told_variable, told_kind, told_list, told_single, told_object, told_leaf, meant_items, fits_items, due_base, takes_input, takes_by, room_first, room_at, list_there}
use Rattle.value_ones.proofs.ToldLaws.{told_up, told_room}
use Rattle.value_coerce.proofs.ListLaws.{item_below, child_more, list_start, list_step, list_stop, list_end, list_behind}
use Rattle.value_ones.proofs.OnesLaws.{ones_stop, ones_told, ones_inside}
use Rattle.value_coerce.proofs.ObjectLaws.{object_repeated, object_unknown, object_fields, dues_here, fields_start, fields_step, fields_stop, fields_end, fields_behind, pairs_room, step_lacks, step_stop, step_put, step_behind, gives_name, name_put, next_found, next_none, slim_here, slim_first, slim_rest, slim_packs}
use Rattle.value_coerce.proofs.+bare_field_input_list_object_put_kept_single_value_variable.Goals as goal

pub bare-kind_of-kind-requires : goal.bare-kind_of-kind-requires
bare-kind_of-kind-requires t c = rowed_sized c.requires.0.treed.rowed

pub bare-input-requires : goal.bare-input-requires
bare-input-requires t c = let a = c.args in (omega (arith, c.decreases), (c.requires.0, c.requires.1, c.requires.2, c.requires.3, c.requires.4, c.requires.5, takes_by _ _ a.due.sort _ _ c.kind_of-kind.ensures c.takes_fields.ensures c.if-takes_fields.true))

pub bare-returns-then-takes_fields : goal.bare-returns-then-takes_fields
bare-returns-then-takes_fields t c = λ text r ps δ g. c.input.ensures text r ps δ g

pub bare-put_base-leaf-requires : goal.bare-put_base-leaf-requires
bare-put_base-leaf-requires t c = let a = c.args in (c.requires.0.booked, c.requires.0.treed.rowed, c.requires.0.spanned, c.requires.2.there, c.requires.3, c.requires.5.no_variable, c.requires.5.no_null, takes_by _ _ a.due.sort _ _ c.kind_of-kind.ensures c.takes_fields.ensures c.if-takes_fields.false)

pub bare-returns : goal.bare-returns
bare-returns t c = let a = c.args in λ text r ps δ g. told_leaf a.t.now a.book.now (value_in ps) text (doc_of a.s.now a.rows.now a.n) a.k a.i a.due.sort a.due.number 0 a.limit a.from a.out.now _ c.of_leaf.result r δ c.requires.5.level c.requires.5.no_null c.requires.5.no_variable (λ e. omega (arith, e)) (λ e. omega (arith, e)) c.put_base-leaf.result c.of_leaf.ensures c.put_base-leaf.ensures

pub field-member_name-name-requires : goal.field-member_name-name-requires
field-member_name-name-requires t c = c.requires.2

pub field-member_type-m-requires : goal.field-member_type-m-requires
field-member_type-m-requires t c = c.requires.2

pub field-given-c-requires : goal.field-given-c-requires
field-given-c-requires t c = let a = c.args in (c.requires.0.treed, names a.t.now a.book.now a.s.now a.rows.now a.n a.s1.now a.rows1.now a.n1 a.held.now a.past1.now a.many c.requires.5, c.member_name-name.ensures.within, c.requires.1)

pub field-lacking-requires : goal.field-lacking-requires
field-lacking-requires t c = c.requires.4.place

pub field-returns-then-n-c : goal.field-returns-then-n-c
field-returns-then-n-c t c = let a = c.args in λ text ps g. step_lacks a.t.now (value_in ps) text a.s.now a.held.now a.many (doc_of a.s.now a.rows.now a.n) a.n a.k a.kind a.h (due_of (member_from a.t.now a.tag a.start a.end)) a.limit a.from a.out.now _ (gives_name a.s.now a.held.now a.many (doc_of a.s.now a.rows.now a.n) a.n a.k a.kind a.h _ (member_from a.t.now a.tag a.start a.end).name _ c.member_name-name.ensures.is c.given-c.ensures) (knows a.t.now a.book.now a.s.now a.rows.now a.n a.s1.now a.rows1.now a.n1 a.held.now a.many ps g) _ c.if-n-c.true (c.lacking.ensures text (due_of (member_from a.t.now a.tag a.start a.end)) a.out.now (slim_packs a.t.now _ _ _ (due_of (member_from a.t.now a.tag a.start a.end)) c.requires.3 c.member_type-m.ensures).0)

pub field-due_of-due-requires : goal.field-due_of-due-requires
field-due_of-due-requires t c = (c.requires.0.booked, c.member_type-m.ensures.within)

pub field-place-first-requires : goal.field-place-first-requires
field-place-first-requires t c = (c.requires.4.least, c.requires.4.place, omega arith)

pub field-overflow_add-stop : goal.field-overflow_add-stop
field-overflow_add-stop t c = omega (arith, c.member_name-name.ensures.within, c.requires.2.most)

pub field-put_field-middle-requires : goal.field-put_field-middle-requires
field-put_field-middle-requires t c = let a = c.args in room_first a.limit a.from _ a.out.now c.requires.4 c.place-first.ensures

pub field-overflow_add-c : goal.field-overflow_add-c
field-overflow_add-c t c = omega (arith, c.if-n-c.false, c.requires.0.treed.rowed.few)

pub field-value-requires : goal.field-value-requires
field-value-requires t c = let a = c.args in let w = (due_is a.t.now a.book.now c.requires.0.booked (member_from a.t.now a.tag a.start a.end).type _ _ _ _ _ _ c.member_type-m.ensures (leb-true (wrapperCount (member_from a.t.now a.tag a.start a.end).type) most_wrappers c.requires.3) c.due_of-due.ensures.0 c.due_of-due.ensures.1) in (omega (arith, c.decreases, w.1.few), (c.requires.0, omega (arith, c.if-n-c.false), w.1, room_after a.limit (house_field_bytes tag_name (member_from a.t.now a.tag a.start a.end).name) (place_of a.limit (a.from + 3)) a.out.now _ _ (room_first a.limit a.from (place_of a.limit (a.from + 3)) a.out.now c.requires.4 refl) c.put_field-middle.auto.out (name_put a.limit a.from _ _ a.out.now _ a.t.now c.member_name-name.result.at c.member_name-name.result.size (member_from a.t.now a.tag a.start a.end).name c.member_name-name.ensures.is c.place-first.ensures c.put_field-middle.ensures), record { ref = (member_from a.t.now a.tag a.start a.end).type; is = w.0 }, c.requires.5))

pub field-returns-in_err-e : goal.field-returns-in_err-e
field-returns-in_err-e t c = let a = c.args in let q = err_from_is_err_and c.from_residual.result c.from_residual.ensures.1 in λ text ps g. rw (q.1, q.2, ← c.in_err-e.was) (step_stop a.t.now (value_in ps) text a.s.now a.held.now a.many (doc_of a.s.now a.rows.now a.n) a.n a.k a.kind a.h (due_of (member_from a.t.now a.tag a.start a.end)) a.limit a.from a.out.now _ (gives_name a.s.now a.held.now a.many (doc_of a.s.now a.rows.now a.n) a.n a.k a.kind a.h _ (member_from a.t.now a.tag a.start a.end).name _ c.member_name-name.ensures.is c.given-c.ensures) (knows a.t.now a.book.now a.s.now a.rows.now a.n a.s1.now a.rows1.now a.n1 a.held.now a.many ps g) c.if-n-c.false _ _ _ c.value.result (c.value.ensures text (member_from a.t.now a.tag a.start a.end).type ps (due_is a.t.now a.book.now c.requires.0.booked (member_from a.t.now a.tag a.start a.end).type _ _ _ _ _ _ c.member_type-m.ensures (leb-true (wrapperCount (member_from a.t.now a.tag a.start a.end).type) most_wrappers c.requires.3) c.due_of-due.ensures.0 c.due_of-due.ensures.1).0 g) _ c.in_err-e.was)

pub field-close-requires : goal.field-close-requires
field-close-requires t c = let a = c.args in step_behind a.t.now (value_in c.requires.5.pairs) 0 a.s.now a.held.now a.many (doc_of a.s.now a.rows.now a.n) a.n a.k a.kind a.h (due_of (member_from a.t.now a.tag a.start a.end)) a.limit a.from a.out.now _ (gives_name a.s.now a.held.now a.many (doc_of a.s.now a.rows.now a.n) a.n a.k a.kind a.h _ (member_from a.t.now a.tag a.start a.end).name _ c.member_name-name.ensures.is c.given-c.ensures) (knows a.t.now a.book.now a.s.now a.rows.now a.n a.s1.now a.rows1.now a.n1 a.held.now a.many c.requires.5.pairs c.requires.5.holds) c.if-n-c.false _ _ _ c.value.result (c.value.ensures 0 (member_from a.t.now a.tag a.start a.end).type c.requires.5.pairs (due_is a.t.now a.book.now c.requires.0.booked (member_from a.t.now a.tag a.start a.end).type _ _ _ _ _ _ c.member_type-m.ensures (leb-true (wrapperCount (member_from a.t.now a.tag a.start a.end).type) most_wrappers c.requires.3) c.due_of-due.ensures.0 c.due_of-due.ensures.1).0 c.requires.5.holds) _ c.in_ok-e.was (name_put a.limit a.from _ _ a.out.now _ a.t.now c.member_name-name.result.at c.member_name-name.result.size (member_from a.t.now a.tag a.start a.end).name c.member_name-name.ensures.is c.place-first.ensures c.put_field-middle.ensures) (room_first a.limit a.from _ a.out.now c.requires.4 refl) c.put_field-middle.auto.out c.value.auto.out

pub field-returns : goal.field-returns
field-returns t c = let a = c.args in λ text ps g. step_put a.t.now (value_in ps) text a.s.now a.held.now a.many (doc_of a.s.now a.rows.now a.n) a.n a.k a.kind a.h (due_of (member_from a.t.now a.tag a.start a.end)) a.limit a.from a.out.now _ (gives_name a.s.now a.held.now a.many (doc_of a.s.now a.rows.now a.n) a.n a.k a.kind a.h _ (member_from a.t.now a.tag a.start a.end).name _ c.member_name-name.ensures.is c.given-c.ensures) (knows a.t.now a.book.now a.s.now a.rows.now a.n a.s1.now a.rows1.now a.n1 a.held.now a.many ps g) c.if-n-c.false _ _ _ c.value.result (c.value.ensures text (member_from a.t.now a.tag a.start a.end).type ps (due_is a.t.now a.book.now c.requires.0.booked (member_from a.t.now a.tag a.start a.end).type _ _ _ _ _ _ c.member_type-m.ensures (leb-true (wrapperCount (member_from a.t.now a.tag a.start a.end).type) most_wrappers c.requires.3) c.due_of-due.ensures.0 c.due_of-due.ensures.1).0 g) _ c.in_ok-e.was (name_put a.limit a.from _ _ a.out.now _ a.t.now c.member_name-name.result.at c.member_name-name.result.size (member_from a.t.now a.tag a.start a.end).name c.member_name-name.ensures.is c.place-first.ensures c.put_field-middle.ensures) _ _ c.requires.4.place c.close.ensures

pub input-start_of-start-requires : goal.input-start_of-start-requires
input-start_of-start-requires t c = let a = c.args in (c.requires.0.booked.indexed.held.cells, number_room a.t.now a.book.now c.requires.0.booked a.due.number (c.requires.2.there (let z = takes_input (row_in a.rows.now a.n a.i).kind a.due.sort c.requires.6 in omega (arith, z))))

pub input-end_of-end-requires : goal.input-end_of-end-requires
input-end_of-end-requires t c = let a = c.args in (c.requires.0.booked.indexed.held.cells, number_room a.t.now a.book.now c.requires.0.booked a.due.number (c.requires.2.there (let z = takes_input (row_in a.rows.now a.n a.i).kind a.due.sort c.requires.6 in omega (arith, z))))

pub input-overflow_sub-k : goal.input-overflow_sub-k
input-overflow_sub-k t c = omega (arith, c.requires.5.level)

pub input-object-requires : goal.input-object-requires
input-object-requires t c = let a = c.args in (omega (arith, c.decreases, c.requires.5.level), (c.requires.0, c.requires.1, entry_bounds a.t.now a.book.now c.requires.0.booked a.due.number (c.requires.2.there (let z = takes_input (row_in a.rows.now a.n a.i).kind a.due.sort c.requires.6 in omega (arith, z))) c.start_of-start.ensures c.end_of-end.ensures, slim_here a.t.now a.book.now c.requires.0.booked c.requires.0.slim a.due.number _ _ (c.requires.2.there (let z = takes_input (row_in a.rows.now a.n a.i).kind a.due.sort c.requires.6 in omega (arith, z))) c.start_of-start.ensures c.end_of-end.ensures, c.requires.3, c.requires.4))

pub input-returns : goal.input-returns
input-returns t c = let a = c.args in λ text r ps δ g. told_object a.t.now a.book.now (value_in ps) text (doc_of a.s.now a.rows.now a.n) a.k a.i a.due.sort a.due.number 0 a.limit a.from a.out.now _ c.object.result r δ c.requires.5.level c.requires.5.no_null c.requires.5.no_variable (λ e. omega (arith, e)) (λ e. omega (arith, e)) a.n _ (rows_count a.rows.now a.n) c.requires.6 (dues_here a.t.now a.book.now c.requires.0.booked a.due.number _ _ (c.requires.2.there (let z = takes_input (row_in a.rows.now a.n a.i).kind a.due.sort c.requires.6 in omega (arith, z))) c.start_of-start.ensures c.end_of-end.ensures) (c.object.ensures text ps g)

pub list-place-at-requires : goal.list-place-at-requires
list-place-at-requires t c = (c.requires.3.least, c.requires.3.place, omega arith)

pub list-first_child-c-requires : goal.list-first_child-c-requires
list-first_child-c-requires t c = (c.requires.0.treed, c.requires.1)

pub list-loop-c-init : goal.list-loop-c-init
list-loop-c-init t c = let a = c.args in (room_first a.limit a.from _ a.out.now c.requires.3 c.place-at.ensures, item_below (doc_of a.s.now a.rows.now a.n) a.n a.h (a.h + 1) _ c.first_child-c.ensures, λ text r ps δ g. list_start a.t.now (value_in ps) text (doc_of a.s.now a.rows.now a.n) a.n a.k a.h r a.limit a.from a.out.now _ _ c.place-at.ensures c.first_child-c.ensures)

pub list-value-requires : goal.list-value-requires
list-value-requires t c = (omega (arith, c.decreases, c.requires.2.few), (c.requires.0, omega (arith, c.loop-c-test.true), c.requires.2, c.loop-c.invariant.0, c.requires.4, c.requires.5))

pub list-shape_of-out-in_err-at : goal.list-shape_of-out-in_err-at
list-shape_of-out-in_err-at t c = c.value.auto.out ∙ c.loop-c.invariant.0.size ∙ sym c.requires.3.size

pub list-returns-in_err-at : goal.list-returns-in_err-at
list-returns-in_err-at t c = let a = c.args in let q = err_from_is_err_and c.from_residual.result c.from_residual.ensures.1 in λ text r ps δ g. rw (q.1, q.2, ← c.in_err-at.was) (list_stop a.t.now (value_in ps) text (doc_of a.s.now a.rows.now a.n) a.n a.k a.h r a.limit a.from a.out.now c.loop-c.out c.loop-c.at c.loop-c.c (c.loop-c.invariant.2 text r ps δ g) _ c.value.result _ c.loop-c-test.true (c.loop-c.invariant.1 c.loop-c-test.true) (c.value.ensures text r ps δ g) c.in_err-at.was)

pub list-next_child-c-requires : goal.list-next_child-c-requires
list-next_child-c-requires t c = (c.requires.0.treed, c.requires.1, c.loop-c-test.true, c.loop-c.invariant.1 c.loop-c-test.true)

pub list-loop-c-smaller : goal.list-loop-c-smaller
list-loop-c-smaller t c = let a = c.args in let z = child_more (doc_of a.s.now a.rows.now a.n) a.n a.h c.loop-c.c _ c.next_child-c.ensures in omega (arith, z, c.loop-c-test.true)

pub list-loop-c-preserved : goal.list-loop-c-preserved
list-loop-c-preserved t c = let a = c.args in (
  told_room 0 a.limit c.loop-c.at c.loop-c.out _ c.value.result (coerced a.t.now (value_in c.requires.5.pairs) 0 (doc_of a.s.now a.rows.now a.n) a.k c.loop-c.c c.requires.4.ref) _ (c.value.ensures 0 c.requires.4.ref c.requires.5.pairs c.requires.4.is c.requires.5.holds) c.in_ok-at.was c.loop-c.invariant.0 c.value.auto.out,
  item_below (doc_of a.s.now a.rows.now a.n) a.n a.h (c.loop-c.c + 1) _ c.next_child-c.ensures,
  λ text r ps δ g. let z = told_up text a.limit c.loop-c.at c.loop-c.out _ c.value.result (coerced a.t.now (value_in ps) text (doc_of a.s.now a.rows.now a.n) a.k c.loop-c.c r) _ (c.value.ensures text r ps δ g) c.in_ok-at.was in
      list_step a.t.now (value_in ps) text (doc_of a.s.now a.rows.now a.n) a.n a.k a.h r a.limit a.from a.out.now c.loop-c.out c.loop-c.at c.loop-c.c (c.loop-c.invariant.2 text r ps δ g) _ z.0 _ _ c.loop-c-test.true (c.loop-c.invariant.1 c.loop-c-test.true) z.1 z.2 c.next_child-c.ensures,
)

pub list-close-requires : goal.list-close-requires
list-close-requires t c = let a = c.args in list_behind a.t.now (value_in c.requires.5.pairs) 0 (doc_of a.s.now a.rows.now a.n) a.n a.k a.h c.requires.4.ref a.limit a.from a.out.now c.loop-c.out c.loop-c.at c.loop-c.c (c.loop-c.invariant.2 0 c.requires.4.ref c.requires.5.pairs c.requires.4.is c.requires.5.holds) c.loop-c.invariant.0

pub list-returns : goal.list-returns
list-returns t c = let a = c.args in λ text r ps δ g. list_end a.t.now (value_in ps) text (doc_of a.s.now a.rows.now a.n) a.n a.k a.h r a.limit a.from a.out.now c.loop-c.out c.loop-c.at c.loop-c.c (c.loop-c.invariant.2 text r ps δ g) _ _ c.loop-c-test.false c.close.ensures

pub object-find_again-again-requires : goal.object-find_again-again-requires
object-find_again-again-requires t c = (c.requires.0.treed, c.requires.1)

pub object-returns-then-again-n : goal.object-returns-then-again-n
object-returns-then-again-n t c = let a = c.args in λ text ps g. object_repeated a.t.now (value_in ps) text (doc_of a.s.now a.rows.now a.n) a.n a.k a.kind a.h (λ x. dues_by a.kind a.t.now x a.end) a.start a.limit a.from a.out.now _ (c.find_again-again.ensures text (value_at text (doc_of a.s.now a.rows.now a.n) a.k)) c.if-again-n.true

pub object-find_alien-alien-requires : goal.object-find_alien-alien-requires
object-find_alien-alien-requires t c = (c.requires.2, c.requires.0.treed, c.requires.1)

pub object-returns-then-alien-n : goal.object-returns-then-alien-n
object-returns-then-alien-n t c = let a = c.args in λ text ps g. object_unknown a.t.now (value_in ps) text (doc_of a.s.now a.rows.now a.n) a.n a.k a.kind a.h (λ x. dues_by a.kind a.t.now x a.end) a.start a.limit a.from a.out.now _ (c.find_again-again.ensures text (value_at text (doc_of a.s.now a.rows.now a.n) a.k)) c.if-again-n.false _ (c.find_alien-alien.ensures text (value_at text (doc_of a.s.now a.rows.now a.n) a.k)) c.if-alien-n.true

pub object-place-at-requires : goal.object-place-at-requires
object-place-at-requires t c = (c.requires.4.least, c.requires.4.place, omega arith)

pub object-loop-f-init : goal.object-loop-f-init
object-loop-f-init t c = let a = c.args in (room_first a.limit a.from _ a.out.now c.requires.4 c.place-at.ensures, c.requires.2.order, c.requires.3, λ text ps g. fields_start a.t.now (value_in ps) text (doc_of a.s.now a.rows.now a.n) a.n a.k a.kind a.h (λ x. dues_by a.kind a.t.now x a.end) a.start a.limit a.from a.out.now _ c.place-at.ensures)

pub object-next_due-requires : goal.object-next_due-requires
object-next_due-requires t c = later c.requires.2 c.loop-f.invariant.1

pub object-close-requires : goal.object-close-requires
object-close-requires t c = let a = c.args in fields_behind a.t.now (value_in c.requires.5.pairs) 0 (doc_of a.s.now a.rows.now a.n) a.n a.k a.kind a.h (λ x. dues_by a.kind a.t.now x a.end) a.start a.limit a.from a.out.now c.loop-f.out c.loop-f.at c.loop-f.p (c.loop-f.invariant.3 0 c.requires.5.pairs c.requires.5.holds) c.loop-f.invariant.0

pub object-shape_of-out-in_default : goal.object-shape_of-out-in_default
object-shape_of-out-in_default t c = c.close.auto.out ∙ c.loop-f.invariant.0.size ∙ sym c.requires.4.size

pub object-returns-in_default : goal.object-returns-in_default
object-returns-in_default t c = let a = c.args in λ text ps g. object_fields a.t.now (value_in ps) text (doc_of a.s.now a.rows.now a.n) a.n a.k a.kind a.h (λ x. dues_by a.kind a.t.now x a.end) a.start a.limit a.from a.out.now _ (c.find_again-again.ensures text (value_at text (doc_of a.s.now a.rows.now a.n) a.k)) c.if-again-n.false _ (c.find_alien-alien.ensures text (value_at text (doc_of a.s.now a.rows.now a.n) a.k)) c.if-alien-n.false _ _ (fields_end a.t.now (value_in ps) text (doc_of a.s.now a.rows.now a.n) a.n a.k a.kind a.h (λ x. dues_by a.kind a.t.now x a.end) a.start a.limit a.from a.out.now c.loop-f.out c.loop-f.at c.loop-f.p (c.loop-f.invariant.3 text ps g) _ _ (next_none a.kind a.t.now c.loop-f.p a.end _ c.next_due.ensures c.in_default.is) c.close.ensures)

pub object-field-requires : goal.object-field-requires
object-field-requires t c = let a = c.args in let f = (next_found a.kind a.t.now c.loop-f.p a.end _ c.in-Some.f c.next_due.ensures c.in-Some.is) in (omega (arith, c.decreases), (c.requires.0, c.requires.1, narrow c.requires.2 f.lies.order f.lies.within, slim_first (due_of (member_from a.t.now c.in-Some.f.tag c.in-Some.f.start c.in-Some.f.end)) (dues_by a.kind a.t.now c.loop-f.p a.end) (dues_by a.kind a.t.now c.in-Some.f.end a.end) c.loop-f.invariant.2 f.all_are, c.loop-f.invariant.0, c.requires.5))

pub object-shape_of-out-in_err-at : goal.object-shape_of-out-in_err-at
object-shape_of-out-in_err-at t c = c.field.auto.out ∙ c.loop-f.invariant.0.size ∙ sym c.requires.4.size

pub object-returns-in_err-at : goal.object-returns-in_err-at
object-returns-in_err-at t c = let a = c.args in let q = err_from_is_err_and c.from_residual.result c.from_residual.ensures.1 in λ text ps g. rw (q.1, q.2, ← c.in_err-at.was) (object_fields a.t.now (value_in ps) text (doc_of a.s.now a.rows.now a.n) a.n a.k a.kind a.h (λ x. dues_by a.kind a.t.now x a.end) a.start a.limit a.from a.out.now _ (c.find_again-again.ensures text (value_at text (doc_of a.s.now a.rows.now a.n) a.k)) c.if-again-n.false _ (c.find_alien-alien.ensures text (value_at text (doc_of a.s.now a.rows.now a.n) a.k)) c.if-alien-n.false _ _ (fields_stop a.t.now (value_in ps) text (doc_of a.s.now a.rows.now a.n) a.n a.k a.kind a.h (λ x. dues_by a.kind a.t.now x a.end) a.start a.limit a.from a.out.now c.loop-f.out c.loop-f.at c.loop-f.p (c.loop-f.invariant.3 text ps g) (due_of (member_from a.t.now c.in-Some.f.tag c.in-Some.f.start c.in-Some.f.end)) c.in-Some.f.end (next_found a.kind a.t.now c.loop-f.p a.end _ c.in-Some.f c.next_due.ensures c.in-Some.is).all_are _ c.field.result _ (c.field.ensures text ps g) c.in_err-at.was))

pub object-loop-f-smaller : goal.object-loop-f-smaller
object-loop-f-smaller t c = let a = c.args in let f = (next_found a.kind a.t.now c.loop-f.p a.end _ c.in-Some.f c.next_due.ensures c.in-Some.is) in omega (arith, f.lies.begins, f.lies.order, f.lies.within)

pub object-loop-f-preserved : goal.object-loop-f-preserved
object-loop-f-preserved t c = let a = c.args in let f = (next_found a.kind a.t.now c.loop-f.p a.end _ c.in-Some.f c.next_due.ensures c.in-Some.is) in (
  pairs_room 0 a.limit c.loop-f.at c.loop-f.out _ c.field.result (stepped a.t.now (value_in c.requires.5.pairs) 0 (doc_of a.s.now a.rows.now a.n) a.n a.k a.kind a.h (due_of (member_from a.t.now c.in-Some.f.tag c.in-Some.f.start c.in-Some.f.end))) _ (c.field.ensures 0 c.requires.5.pairs c.requires.5.holds) c.in_ok-at.was c.loop-f.invariant.0 c.field.auto.out,
  f.lies.within,
  slim_rest (due_of (member_from a.t.now c.in-Some.f.tag c.in-Some.f.start c.in-Some.f.end)) (dues_by a.kind a.t.now c.loop-f.p a.end) (dues_by a.kind a.t.now c.in-Some.f.end a.end) c.loop-f.invariant.2 f.all_are,
  λ text ps g. fields_step a.t.now (value_in ps) text (doc_of a.s.now a.rows.now a.n) a.n a.k a.kind a.h (λ x. dues_by a.kind a.t.now x a.end) a.start a.limit a.from a.out.now c.loop-f.out c.loop-f.at c.loop-f.p (c.loop-f.invariant.3 text ps g) (due_of (member_from a.t.now c.in-Some.f.tag c.in-Some.f.start c.in-Some.f.end)) c.in-Some.f.end f.all_are _ c.field.result _ (c.field.ensures text ps g) c.in_ok-at.was,
)

pub put_kept-is_null-requires : goal.put_kept-is_null-requires
put_kept-is_null-requires t c = rowed_sized c.requires.0.treed.rowed

pub put_kept-put_nothing-requires : goal.put_kept-put_nothing-requires
put_kept-put_nothing-requires t c = c.requires.3

pub put_kept-returns-then-is_null : goal.put_kept-returns-then-is_null
put_kept-returns-then-is_null t c = let a = c.args in λ vars text there r ref tree e δ kept. kept_null a.t.now vars text there (doc_of a.s.now a.rows.now a.n) a.n a.row a.i a.limit a.from r ref tree a.out.now _ c.put_nothing.result kept (subst (λ (b : Bool). Decides b (((row_in a.rows.now a.n a.row).kind ≡ kind_null) ⊎ ((row_in a.rows.now a.n a.row).kind ≡ kind_variable))) c.if-is_null.true c.is_null.ensures) (c.put_nothing.ensures text r e)

pub put_kept-returns-then-limit-from : goal.put_kept-returns-then-limit-from
put_kept-returns-then-limit-from t c = let a = c.args in λ vars text there r ref tree e δ kept. kept_full a.t.now vars text there (doc_of a.s.now a.rows.now a.n) a.n a.row a.i a.limit a.from r ref tree a.out.now _ (Ok a.from) kept (subst (λ (b : Bool). Decides b (((row_in a.rows.now a.n a.row).kind ≡ kind_null) ⊎ ((row_in a.rows.now a.n a.row).kind ≡ kind_variable))) c.if-is_null.false c.is_null.ensures) c.if-limit-from.true c.requires.3.place refl

pub put_kept-value-requires : goal.put_kept-value-requires
put_kept-value-requires t c = let a = c.args in (omega (arith, c.decreases), (c.requires.0, c.requires.1, c.requires.2, c.requires.3, c.requires.4, record { ready = c.requires.0; size = omega arith; pairs = no_pairs; holds = refl }))

pub put_kept-returns : goal.put_kept-returns
put_kept-returns t c = let a = c.args in λ vars text there r ref tree e δ kept. kept_value a.t.now vars text there (doc_of a.s.now a.rows.now a.n) a.n a.row a.i a.limit a.from r ref tree a.out.now _ c.value.result kept (subst (λ (b : Bool). Decides b (((row_in a.rows.now a.n a.row).kind ≡ kind_null) ⊎ ((row_in a.rows.now a.n a.row).kind ≡ kind_variable))) c.if-is_null.false c.is_null.ensures) (c.value.ensures there ref no_pairs δ refl)

pub single-lists_in-m-requires : goal.single-lists_in-m-requires
single-lists_in-m-requires t c = c.requires.2.few

pub single-overflow_mul-m : goal.single-overflow_mul-m
single-overflow_mul-m t c = omega (arith, c.lists_in-m.ensures.0)

pub single-place-first-requires : goal.single-place-first-requires
single-place-first-requires t c = (c.requires.3.least, c.requires.3.place, omega (arith, c.lists_in-m.ensures.0))

pub single-bare-requires : goal.single-bare-requires
single-bare-requires t c = let a = c.args in (omega (arith, c.decreases), (c.requires.0, c.requires.1, c.requires.2, room_at a.limit a.from (a.from + 3 * c.lists_in-m.result) _ a.out.now c.requires.3 c.place-first.ensures, c.requires.5, c.requires.6))

pub single-returns-in_err-at : goal.single-returns-in_err-at
single-returns-in_err-at t c = let a = c.args in let q = err_from_is_err_and c.from_residual.result c.from_residual.ensures.1 in λ text r ps δ g. rw (q.1, q.2, ← c.in_err-at.was) (told_single a.t.now a.book.now (value_in ps) text (doc_of a.s.now a.rows.now a.n) a.k a.i a.due.sort a.due.number a.due.wrappers a.limit a.from a.out.now _ c.bare.result r δ c.requires.6.level c.requires.6.no_null c.requires.6.no_variable c.requires.6.no_list _ (c.lists_in-m.ensures.1 r δ.packs) (ones_stop text a.limit a.from _ (coerced a.t.now (value_in ps) text (doc_of a.s.now a.rows.now a.n) a.k a.i (named (base_of r))) a.out.now _ c.bare.result _ c.place-first.ensures (c.bare.ensures text (named (base_of r)) ps (due_base a.t.now a.book.now r a.due.sort a.due.number a.due.wrappers δ) g) _ c.in_err-at.was))

pub single-close_ones-requires : goal.single-close_ones-requires
single-close_ones-requires t c = let a = c.args in ones_inside 0 a.limit a.from _ (coerced a.t.now (value_in c.requires.5.pairs) 0 (doc_of a.s.now a.rows.now a.n) a.k a.i (named (base_of c.requires.4.ref))) a.out.now _ c.bare.result _ c.place-first.ensures (c.bare.ensures 0 (named (base_of c.requires.4.ref)) c.requires.5.pairs (due_base a.t.now a.book.now c.requires.4.ref a.due.sort a.due.number a.due.wrappers c.requires.4.is) c.requires.5.holds) _ c.in_ok-at.was c.lists_in-m.ensures.0 c.requires.3 c.bare.auto.out

pub single-returns : goal.single-returns
single-returns t c = let a = c.args in λ text r ps δ g. told_single a.t.now a.book.now (value_in ps) text (doc_of a.s.now a.rows.now a.n) a.k a.i a.due.sort a.due.number a.due.wrappers a.limit a.from a.out.now _ (Ok c.close_ones.result) r δ c.requires.6.level c.requires.6.no_null c.requires.6.no_variable c.requires.6.no_list _ (c.lists_in-m.ensures.1 r δ.packs) (c.close_ones.ensures text (coerced a.t.now (value_in ps) text (doc_of a.s.now a.rows.now a.n) a.k a.i (named (base_of r))) a.out.now (ones_told text a.limit a.from _ (coerced a.t.now (value_in ps) text (doc_of a.s.now a.rows.now a.n) a.k a.i (named (base_of r))) a.out.now _ c.bare.result _ c.place-first.ensures (c.bare.ensures text (named (base_of r)) ps (due_base a.t.now a.book.now r a.due.sort a.due.number a.due.wrappers δ) g) _ c.in_ok-at.was))

pub value-put_nothing-requires : goal.value-put_nothing-requires
value-put_nothing-requires t c = c.requires.3

pub value-returns-then-k-eq0 : goal.value-returns-then-k-eq0
value-returns-then-k-eq0 t c = let a = c.args in λ text r ps δ g. told_none a.t.now a.book.now (value_in ps) text (doc_of a.s.now a.rows.now a.n) a.k a.i a.due.sort a.due.number a.due.wrappers a.limit a.from a.out.now _ c.put_nothing.result r δ c.put_nothing.ensures c.if-k-eq0.true

pub value-kind_of-kind-requires : goal.value-kind_of-kind-requires
value-kind_of-kind-requires t c = rowed_sized c.requires.0.treed.rowed

pub value-put_nothing-requires-then-kind-eq-KIND_NULL : goal.value-put_nothing-requires-then-kind-eq-KIND_NULL
value-put_nothing-requires-then-kind-eq-KIND_NULL t c = c.requires.3

pub value-returns-then-kind-eq-KIND_NULL : goal.value-returns-then-kind-eq-KIND_NULL
value-returns-then-kind-eq-KIND_NULL t c = let a = c.args in λ text r ps δ g. told_null a.t.now a.book.now (value_in ps) text (doc_of a.s.now a.rows.now a.n) a.k a.i a.due.sort a.due.number a.due.wrappers a.limit a.from a.out.now _ c.put_nothing-then-kind-eq-KIND_NULL.result r δ c.put_nothing-then-kind-eq-KIND_NULL.ensures c.if-k-eq0.false (sym c.kind_of-kind.ensures ∙ c.if-kind-eq-KIND_NULL.true)

pub value-variable-requires : goal.value-variable-requires
value-variable-requires t c = (omega (arith, c.decreases), (c.requires.0, c.requires.3, c.requires.5))

pub value-returns-then-kind-eq-KIND_VARIABLE : goal.value-returns-then-kind-eq-KIND_VARIABLE
value-returns-then-kind-eq-KIND_VARIABLE t c = let a = c.args in λ text r ps δ g. told_variable a.t.now a.book.now (value_in ps) text (doc_of a.s.now a.rows.now a.n) a.k a.i a.due.sort a.due.number a.due.wrappers a.limit a.from a.out.now _ c.variable.result r δ c.if-k-eq0.false (sym c.kind_of-kind.ensures ∙ c.if-kind-eq-KIND_VARIABLE.true) (c.variable.ensures text r ps δ.packs g)

pub value-single-requires : goal.value-single-requires
value-single-requires t c = (omega (arith, c.decreases), (c.requires.0, c.requires.1, c.requires.2, c.requires.3, c.requires.4, c.requires.5, record { level = c.if-k-eq0.false; no_null = (λ e. c.if-kind-eq-KIND_NULL.false (c.kind_of-kind.ensures ∙ e)); no_variable = (λ e. c.if-kind-eq-KIND_VARIABLE.false (c.kind_of-kind.ensures ∙ e)); no_list = λ e. c.if-kind-ne-KIND_LIST.true (c.kind_of-kind.ensures ∙ e) }))

pub value-returns-then-kind-ne-KIND_LIST : goal.value-returns-then-kind-ne-KIND_LIST
value-returns-then-kind-ne-KIND_LIST t c = λ text r ps δ g. c.single.ensures text r ps δ g

pub value-returns-then-inside-ne-WRAP_LIST : goal.value-returns-then-inside-ne-WRAP_LIST
value-returns-then-inside-ne-WRAP_LIST t c = let a = c.args in λ text r ps δ g. told_kind a.t.now a.book.now (value_in ps) text (doc_of a.s.now a.rows.now a.n) a.k a.i a.due.sort a.due.number a.due.wrappers a.limit a.from a.out.now _ (refused a.i reason_kind) r δ c.if-k-eq0.false (λ e. c.if-kind-eq-KIND_NULL.false (c.kind_of-kind.ensures ∙ e)) (λ e. c.if-kind-eq-KIND_VARIABLE.false (c.kind_of-kind.ensures ∙ e)) _ (c.nullable-inside.ensures.2 r δ.packs) c.nullable-inside.ensures.1 c.if-inside-ne-WRAP_LIST.true (sym c.kind_of-kind.ensures ∙ c.if-kind-ne-KIND_LIST.false) refl

pub value-list-requires : goal.value-list-requires
value-list-requires t c = let a = c.args in (omega (arith, c.decreases, c.if-k-eq0.false), (c.requires.0, list_there a.rows.now a.n a.i (sym c.kind_of-kind.ensures ∙ c.if-kind-ne-KIND_LIST.false), fits_items a.book.now a.due.sort a.due.number a.due.wrappers _ c.requires.2 c.nullable-inside.ensures.0, c.requires.3, meant_items a.t.now a.book.now a.due.sort a.due.number a.due.wrappers _ c.requires.4 c.nullable-inside.ensures.2 c.if-inside-ne-WRAP_LIST.false, c.requires.5))

pub value-returns : goal.value-returns
value-returns t c = let a = c.args in λ text r ps δ g. told_list a.t.now a.book.now (value_in ps) text (doc_of a.s.now a.rows.now a.n) a.k a.i a.due.sort a.due.number a.due.wrappers a.limit a.from a.out.now _ c.list.result r δ c.if-k-eq0.false (λ e. c.if-kind-eq-KIND_NULL.false (c.kind_of-kind.ensures ∙ e)) (λ e. c.if-kind-eq-KIND_VARIABLE.false (c.kind_of-kind.ensures ∙ e)) a.n _ (rows_count a.rows.now a.n) (c.nullable-inside.ensures.2 r δ.packs) c.if-inside-ne-WRAP_LIST.false (sym c.kind_of-kind.ensures ∙ c.if-kind-ne-KIND_LIST.false) (λ q ε. c.list.ensures text q ps ε g)

pub variable-held_at-v-requires : goal.variable-held_at-v-requires
variable-held_at-v-requires t c = let a = c.args in (c.requires.0.treed.rowed, names a.t.now a.book.now a.s.now a.rows.now a.n a.s1.now a.rows1.now a.n1 a.held.now a.past1.now a.many c.requires.2)

pub variable-put_nothing-requires : goal.variable-put_nothing-requires
variable-put_nothing-requires t c = c.requires.1

pub variable-returns-then-many-v : goal.variable-returns-then-many-v
variable-returns-then-many-v t c = let a = c.args in λ text r ps e g. stood_as a.t.now (value_in ps) text a.i a.limit a.from r ((value_in ps) (name_of (doc_of a.s.now a.rows.now a.n) a.i)) _ a.out.now _ c.put_nothing.result ((looked a.t.now a.book.now a.s.now a.rows.now a.n a.s1.now a.rows1.now a.n1 a.held.now a.many ps g (name_of (doc_of a.s.now a.rows.now a.n) a.i) _ c.held_at-v.ensures).none_is c.if-many-v.true) (c.put_nothing.ensures text r e)

pub variable-due_held-due-requires : goal.variable-due_held-due-requires
variable-due_held-due-requires t c = (c.requires.2.size, omega (arith, c.if-many-v.false))

pub variable-cell_of-row-requires : goal.variable-cell_of-row-requires
variable-cell_of-row-requires t c = (c.requires.2.size, omega (arith, c.if-many-v.false), omega arith)

pub variable-cell_of-requires : goal.variable-cell_of-requires
variable-cell_of-requires t c = (c.requires.2.size, omega (arith, c.if-many-v.false), omega arith)

pub variable-put_kept-requires : goal.variable-put_kept-requires
variable-put_kept-requires t c = let a = c.args in let l = ((looked a.t.now a.book.now a.s.now a.rows.now a.n a.s1.now a.rows1.now a.n1 a.held.now a.many c.requires.2.pairs c.requires.2.holds (name_of (doc_of a.s.now a.rows.now a.n) a.i) _ c.held_at-v.ensures).some_is (omega (arith, c.if-many-v.false))).3 in let w = held_due a.t.now a.book.now a.s.now a.rows.now a.n a.s1.now a.rows1.now a.n1 a.held.now _ _ _ c.due_held-due.result c.due_held-due.ensures l in (omega (arith, c.decreases, c.if-many-v.false, w.1.few), (c.requires.0, (held_row0 a.t.now a.book.now a.s.now a.rows.now a.n a.s1.now a.rows1.now a.n1 a.held.now _ _ _ _ _ c.cell_of-row.ensures c.cell_of.ensures c.if-cell_of-eq-TEXT_DOCUMENT.true l).there, w.1, c.requires.1, record { ref = l.ref; is = w.0 }))

pub variable-returns-then-cell_of-eq-TEXT_DOCUMENT : goal.variable-returns-then-cell_of-eq-TEXT_DOCUMENT
variable-returns-then-cell_of-eq-TEXT_DOCUMENT t c = let a = c.args in λ text r ps e g. let z = (looked a.t.now a.book.now a.s.now a.rows.now a.n a.s1.now a.rows1.now a.n1 a.held.now a.many ps g (name_of (doc_of a.s.now a.rows.now a.n) a.i) _ c.held_at-v.ensures).some_is (omega (arith, c.if-many-v.false)) in let w = held_due a.t.now a.book.now a.s.now a.rows.now a.n a.s1.now a.rows1.now a.n1 a.held.now _ _ _ c.due_held-due.result c.due_held-due.ensures z.3 in stood_as a.t.now (value_in ps) text a.i a.limit a.from r ((value_in ps) (name_of (doc_of a.s.now a.rows.now a.n) a.i)) _ a.out.now _ c.put_kept.result z.2 (c.put_kept.ensures (value_in ps) text 0 r z.3.ref z.0 e w.0 (held_row0 a.t.now a.book.now a.s.now a.rows.now a.n a.s1.now a.rows1.now a.n1 a.held.now _ _ _ _ _ c.cell_of-row.ensures c.cell_of.ensures c.if-cell_of-eq-TEXT_DOCUMENT.true z.3))

pub variable-put_kept-requires-2 : goal.variable-put_kept-requires-2
variable-put_kept-requires-2 t c = let a = c.args in let l = ((looked a.t.now a.book.now a.s.now a.rows.now a.n a.s1.now a.rows1.now a.n1 a.held.now a.many c.requires.2.pairs c.requires.2.holds (name_of (doc_of a.s.now a.rows.now a.n) a.i) _ c.held_at-v.ensures).some_is (omega (arith, c.if-many-v.false))).3 in let w = held_due a.t.now a.book.now a.s.now a.rows.now a.n a.s1.now a.rows1.now a.n1 a.held.now _ _ _ c.due_held-due.result c.due_held-due.ensures l in (omega (arith, c.decreases, c.if-many-v.false, w.1.few), (c.requires.2.ready, (held_row1 a.t.now a.book.now a.s.now a.rows.now a.n a.s1.now a.rows1.now a.n1 a.held.now _ _ _ _ _ c.cell_of-row.ensures c.cell_of.ensures c.if-cell_of-eq-TEXT_DOCUMENT.false l).there, w.1, c.requires.1, record { ref = l.ref; is = w.0 }))

pub variable-returns : goal.variable-returns
variable-returns t c = let a = c.args in λ text r ps e g. let z = (looked a.t.now a.book.now a.s.now a.rows.now a.n a.s1.now a.rows1.now a.n1 a.held.now a.many ps g (name_of (doc_of a.s.now a.rows.now a.n) a.i) _ c.held_at-v.ensures).some_is (omega (arith, c.if-many-v.false)) in let w = held_due a.t.now a.book.now a.s.now a.rows.now a.n a.s1.now a.rows1.now a.n1 a.held.now _ _ _ c.due_held-due.result c.due_held-due.ensures z.3 in stood_as a.t.now (value_in ps) text a.i a.limit a.from r ((value_in ps) (name_of (doc_of a.s.now a.rows.now a.n) a.i)) _ a.out.now _ c.put_kept-2.result z.2 (c.put_kept-2.ensures (value_in ps) text 1 r z.3.ref z.0 e w.0 (held_row1 a.t.now a.book.now a.s.now a.rows.now a.n a.s1.now a.rows1.now a.n1 a.held.now _ _ _ _ _ c.cell_of-row.ensures c.cell_of.ensures c.if-cell_of-eq-TEXT_DOCUMENT.false z.3))
