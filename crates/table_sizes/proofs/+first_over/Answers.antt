-- Depth falls at each call; in a holder one field more is read at each turn, and what comes decides.
use Rattle.std.proofs.lemmas.Result.{err_from_is_err_and}
use Rattle.std.specs.Prelude.{Some}
use Rattle.table_fields.proofs.BoundsLaws.{later, narrow}
use borrow.Enum.Refused.{opened}
use mathlib.Core.Path.{◌≡◌, sym, ap, subst, ◌∙◌}
use mathlib.Core.List.{List, head?}
use Prim.Native.Nat.{ℕ, ◌+◌}
use native.Mathlib.Omega.{arith}
use lib.Seq.{slice}
use Rattle.table_fields.specs.Fields.{field_at}
use Rattle.table_fields.proofs.FieldLaws.{Lies, field_lies}
use Rattle.table_framing.specs.Holders.{HoldsAs}
use Rattle.table_rooms.specs.Rooms.{told_over}
use Rattle.table_sizes.proofs.CountLaws.{over_plain, not_plain, leaf_over, counting_start, counting_end, counting_torn, counting_names, counting_others, counting_inside, counting_on}
use Prim.Native.Nat.{ℕ}
use Rattle.table_sizes.proofs.+first_over.Goals as goal

pub returns-then-is_plain : goal.returns-then-is_plain
returns-then-is_plain t c = over_plain c.args.depth c.args.tag c.is_plain.ensures c.args.at (slice (c.args.at + 3) c.args.end c.args.t.now) c.if-is_plain.true

pub overflow_add-at : goal.overflow_add-at
overflow_add-at t c = omega (arith, c.requires.order, c.requires.within, c.requires.most)

pub leaf_over-requires : goal.leaf_over-requires
leaf_over-requires t c = c.requires

pub returns-in_default : goal.returns-in_default
returns-in_default t c = c.leaf_over.ensures ∙ ap (λ (l : List ℕ). told_over (head? l)) (leaf_over c.args.depth c.args.at c.args.tag (slice (c.args.at + 3) c.args.end c.args.t.now) c.content_of-h.result (not_plain c.args.depth c.args.tag c.is_plain.ensures c.if-is_plain.false) c.content_of-h.ensures (opened c.in_default.in_default-own.keys2))

pub overflow_add-i : goal.overflow_add-i
overflow_add-i t c = omega (arith, c.requires.order, c.requires.within, c.requires.most)

pub loop-i-init : goal.loop-i-init
loop-i-init t c = counting_start c.args.t.now c.args.at c.args.tag c.args.end c.args.depth _ _ _ _ _ (not_plain c.args.depth c.args.tag c.is_plain.ensures c.if-is_plain.false) (subst (HoldsAs c.args.tag) c.in-Fields.is c.content_of-h.ensures) c.rest_room-rest.ensures c.requires.order

pub read_field-requires : goal.read_field-requires
read_field-requires t c = later c.requires c.loop-i.invariant.order

pub returns-in_default-read_field : goal.returns-in_default-read_field
returns-in_default-read_field t c = counting_torn c.args.t.now c.args.at c.args.tag c.args.end c.args.depth _ _ c.loop-i.i c.requires.within c.loop-i.invariant c.loop-i-test.true (sym c.read_field.ensures ∙ c.in_default-read_field.is)

pub overflow_cast-result : goal.overflow_cast-result
overflow_cast-result t c = omega (arith, c.loop-i.invariant.order, c.requires.within, c.requires.most)

pub returns-then-names-n : goal.returns-then-names-n
returns-then-names-n t c =
    let read : field_at c.args.t.now c.loop-i.i c.args.end ≡ Some c.in-Some.f = sym c.read_field.ensures ∙ c.in-Some.is in
    counting_names c.args.t.now c.args.at c.args.tag c.args.end c.args.depth _ _ c.loop-i.i c.requires.within c.loop-i.invariant c.loop-i-test.true _ read _ c.room_of-n.ensures c.if-names-n.true

pub overflow_cast-result-then-rest-n : goal.overflow_cast-result-then-rest-n
overflow_cast-result-then-rest-n t c = omega (arith, c.loop-i.invariant.order, c.requires.within, c.requires.most)

pub returns-then-rest-n : goal.returns-then-rest-n
returns-then-rest-n t c =
    let read : field_at c.args.t.now c.loop-i.i c.args.end ≡ Some c.in-Some.f = sym c.read_field.ensures ∙ c.in-Some.is in
    counting_others c.args.t.now c.args.at c.args.tag c.args.end c.args.depth _ _ c.loop-i.i c.requires.within c.loop-i.invariant c.loop-i-test.true _ read _ c.room_of-n.ensures c.if-rest-n.true

pub overflow_sub-depth : goal.overflow_sub-depth
overflow_sub-depth t c = let n = not_plain c.args.depth c.args.tag c.is_plain.ensures c.if-is_plain.false in omega arith

pub first_over-requires : goal.first_over-requires
first_over-requires t c =
    let read : field_at c.args.t.now c.loop-i.i c.args.end ≡ Some c.in-Some.f = sym c.read_field.ensures ∙ c.in-Some.is in
    let lies : Lies c.loop-i.i c.args.end c.in-Some.f.start c.in-Some.f.end = field_lies c.args.t.now c.loop-i.i c.args.end _ c.loop-i.invariant.order read in
    let l = lies in (omega (arith, c.decreases, not_plain c.args.depth c.args.tag c.is_plain.ensures c.if-is_plain.false), narrow c.requires (omega (arith, l.begins, l.order)) l.within)

pub returns-in_err-first_over : goal.returns-in_err-first_over
returns-in_err-first_over t c =
    let read : field_at c.args.t.now c.loop-i.i c.args.end ≡ Some c.in-Some.f = sym c.read_field.ensures ∙ c.in-Some.is in
    let p = err_from_is_err_and c.from_residual.result c.from_residual.ensures.1 in
    rw (p.1, p.2) (sym c.in_err-first_over.was ∙ counting_inside c.args.t.now c.args.at c.args.tag c.args.end c.args.depth _ _ c.loop-i.i c.requires.within c.loop-i.invariant c.loop-i-test.true _ read _ c.room_of-n.ensures c.if-names-n.false c.if-rest-n.false _ _ c.first_over.ensures c.in_err-first_over.was)

pub loop-i-smaller : goal.loop-i-smaller
loop-i-smaller t c =
    let read : field_at c.args.t.now c.loop-i.i c.args.end ≡ Some c.in-Some.f = sym c.read_field.ensures ∙ c.in-Some.is in
    let lies : Lies c.loop-i.i c.args.end c.in-Some.f.start c.in-Some.f.end = field_lies c.args.t.now c.loop-i.i c.args.end _ c.loop-i.invariant.order read in
    let l = lies in omega (arith, l.begins, l.order, l.within, c.loop-i-test.true)

pub loop-i-preserved : goal.loop-i-preserved
loop-i-preserved t c =
    let read : field_at c.args.t.now c.loop-i.i c.args.end ≡ Some c.in-Some.f = sym c.read_field.ensures ∙ c.in-Some.is in
    counting_on c.args.t.now c.args.at c.args.tag c.args.end c.args.depth _ _ c.loop-i.i c.requires.within c.loop-i.invariant c.loop-i-test.true _ read _ c.room_of-n.ensures c.if-names-n.false c.if-rest-n.false _ c.first_over.ensures c.in_ok-first_over.was

pub returns : goal.returns
returns t c = counting_end c.args.t.now c.args.at c.args.tag c.args.end c.args.depth _ _ c.loop-i.i c.requires.within c.loop-i.invariant c.loop-i-test.false
