-- Depth falls at each call; in a holder one field more is read at each turn, and what comes decides.
use Rattle.std.proofs.lemmas.Result.{err_from_is_err_and}
use Rattle.std.specs.Prelude.{Some}
use Rattle.table_fields.proofs.BoundsLaws.{later, narrow}
use borrow.Enum.Refused.{opened}
use mathlib.Core.Path.{◌≡◌, sym, subst, ◌∙◌}
use Prim.Native.Nat.{◌+◌}
use native.Mathlib.Omega.{arith}
use mathlib.Core.Bool.{true, false}
use lib.Seq.{slice}
use Rattle.table_fields.specs.Fields.{field_at}
use Rattle.table_fields.proofs.FieldLaws.{Lies, field_lies}
use Rattle.table_framing.specs.Holders.{Holder, HoldsAs}
use Rattle.table_framing.proofs.WrongLaws.{wrong_deep, leaf_is, ordered_start, ordered_torn, ordered_out, ordered_inside, ordered_on, ordered_first, ordered_second, ordered_right}
use Rattle.table_framing.proofs.+first_wrong.Goals as goal

pub overflow_cast-result : goal.overflow_cast-result
overflow_cast-result t c = omega (arith, c.requires.order, c.requires.within, c.requires.most)

pub returns-then-depth-eq0 : goal.returns-then-depth-eq0
returns-then-depth-eq0 t c = wrong_deep c.args.depth c.args.at c.args.tag (slice (c.args.at + 3) c.args.end c.args.t.now) c.if-depth-eq0.true

pub overflow_add-at : goal.overflow_add-at
overflow_add-at t c = omega (arith, c.requires.order, c.requires.within, c.requires.most)

pub is_leaf-requires : goal.is_leaf-requires
is_leaf-requires t c = c.requires

pub returns-then-is_leaf : goal.returns-then-is_leaf
returns-then-is_leaf t c = leaf_is c.args.depth c.args.at c.args.tag (slice (c.args.at + 3) c.args.end c.args.t.now) c.content_of-h.result true c.is_leaf.result c.if-depth-eq0.false c.content_of-h.ensures (opened c.in_default.in_default-own.keys2) c.is_leaf.ensures c.if-is_leaf.true

pub overflow_cast-result-in_default : goal.overflow_cast-result-in_default
overflow_cast-result-in_default t c = omega (arith, c.requires.order, c.requires.within, c.requires.most)

pub returns-in_default : goal.returns-in_default
returns-in_default t c = leaf_is c.args.depth c.args.at c.args.tag (slice (c.args.at + 3) c.args.end c.args.t.now) c.content_of-h.result false c.is_leaf.result c.if-depth-eq0.false c.content_of-h.ensures (opened c.in_default.in_default-own.keys2) c.is_leaf.ensures c.if-is_leaf.false

pub overflow_add-i : goal.overflow_add-i
overflow_add-i t c = omega (arith, c.requires.order, c.requires.within, c.requires.most)

pub loop-i-init : goal.loop-i-init
loop-i-init t c =
    let holder : Holder c.args.tag c.in-Fields.first c.in-Fields.second c.in-Fields.from c.in-Fields.to = subst (HoldsAs c.args.tag) c.in-Fields.is c.content_of-h.ensures in
    ordered_start c.args.t.now c.args.at c.args.tag c.args.end c.args.depth _ _ _ _ holder c.requires.order

pub read_field-requires : goal.read_field-requires
read_field-requires t c = later c.requires c.loop-i.invariant.order

pub overflow_cast-result-in_default-read_field : goal.overflow_cast-result-in_default-read_field
overflow_cast-result-in_default-read_field t c = omega (arith, c.loop-i.invariant.order, c.requires.within, c.requires.most)

pub returns-in_default-read_field : goal.returns-in_default-read_field
returns-in_default-read_field t c = ordered_torn c.args.t.now c.args.at c.args.tag c.args.end c.args.depth _ _ _ _ _ c.loop-i.i c.requires.within c.if-depth-eq0.false c.loop-i.invariant c.loop-i-test.true (sym c.read_field.ensures ∙ c.in_default-read_field.is)

pub overflow_cast-result-then-not-in_place : goal.overflow_cast-result-then-not-in_place
overflow_cast-result-then-not-in_place t c = omega (arith, c.loop-i.invariant.order, c.requires.within, c.requires.most)

pub returns-then-not-in_place : goal.returns-then-not-in_place
returns-then-not-in_place t c =
    let read : field_at c.args.t.now c.loop-i.i c.args.end ≡ Some c.in-Some.f = sym c.read_field.ensures ∙ c.in-Some.is in
    ordered_out c.args.t.now c.args.at c.args.tag c.args.end c.args.depth _ _ _ _ _ c.loop-i.i c.requires.within c.if-depth-eq0.false c.loop-i.invariant c.loop-i-test.true _ read _ c.in_place.ensures c.if-not-in_place.true

pub overflow_sub-depth : goal.overflow_sub-depth
overflow_sub-depth t c = let n = c.if-depth-eq0.false in omega arith

pub first_wrong-requires : goal.first_wrong-requires
first_wrong-requires t c =
    let read : field_at c.args.t.now c.loop-i.i c.args.end ≡ Some c.in-Some.f = sym c.read_field.ensures ∙ c.in-Some.is in
    let lies : Lies c.loop-i.i c.args.end c.in-Some.f.start c.in-Some.f.end = field_lies c.args.t.now c.loop-i.i c.args.end _ c.loop-i.invariant.order read in
    let l = lies in (omega (arith, c.decreases, c.if-depth-eq0.false), narrow c.requires (omega (arith, l.begins, l.order)) l.within)

pub returns-in_err-first_wrong : goal.returns-in_err-first_wrong
returns-in_err-first_wrong t c =
    let read : field_at c.args.t.now c.loop-i.i c.args.end ≡ Some c.in-Some.f = sym c.read_field.ensures ∙ c.in-Some.is in
    let p = err_from_is_err_and c.from_residual.result c.from_residual.ensures.1 in
    rw (p.1, p.2) (sym c.in_err-first_wrong.was ∙ ordered_inside c.args.t.now c.args.at c.args.tag c.args.end c.args.depth _ _ _ _ _ c.loop-i.i c.requires.within c.if-depth-eq0.false c.loop-i.invariant c.loop-i-test.true _ read _ c.in_place.ensures c.if-not-in_place.false _ _ c.first_wrong.ensures c.in_err-first_wrong.was)

pub loop-i-smaller : goal.loop-i-smaller
loop-i-smaller t c =
    let read : field_at c.args.t.now c.loop-i.i c.args.end ≡ Some c.in-Some.f = sym c.read_field.ensures ∙ c.in-Some.is in
    let lies : Lies c.loop-i.i c.args.end c.in-Some.f.start c.in-Some.f.end = field_lies c.args.t.now c.loop-i.i c.args.end _ c.loop-i.invariant.order read in
    let l = lies in omega (arith, l.begins, l.order, l.within, c.loop-i-test.true)

pub loop-i-preserved : goal.loop-i-preserved
loop-i-preserved t c =
    let read : field_at c.args.t.now c.loop-i.i c.args.end ≡ Some c.in-Some.f = sym c.read_field.ensures ∙ c.in-Some.is in
    ordered_on c.args.t.now c.args.at c.args.tag c.args.end c.args.depth _ _ _ _ _ c.loop-i.i c.requires.within c.if-depth-eq0.false c.loop-i.invariant c.loop-i-test.true _ read _ c.in_place.ensures c.if-not-in_place.false _ c.first_wrong.ensures c.in_ok-first_wrong.was _ c.least_after-least.ensures

pub overflow_cast-lacking : goal.overflow_cast-lacking
overflow_cast-lacking t c = omega (arith, c.requires.order, c.requires.within, c.requires.most)

pub overflow_add-at-2 : goal.overflow_add-at-2
overflow_add-at-2 t c = omega (arith, c.requires.order, c.requires.within, c.requires.most)

pub has_tag-requires : goal.has_tag-requires
has_tag-requires t c = c.requires

pub returns-then-not-has_tag : goal.returns-then-not-has_tag
returns-then-not-has_tag t c = ordered_first c.args.t.now c.args.at c.args.tag c.args.end c.args.depth _ _ _ _ _ c.loop-i.i c.requires.within c.if-depth-eq0.false c.loop-i.invariant c.loop-i-test.false _ c.has_tag.ensures c.if-not-has_tag.true

pub overflow_add-at-3 : goal.overflow_add-at-3
overflow_add-at-3 t c = omega (arith, c.requires.order, c.requires.within, c.requires.most)

pub has_tag-requires-2 : goal.has_tag-requires-2
has_tag-requires-2 t c = c.requires

pub returns-then-not-has_tag-2 : goal.returns-then-not-has_tag-2
returns-then-not-has_tag-2 t c = ordered_second c.args.t.now c.args.at c.args.tag c.args.end c.args.depth _ _ _ _ _ c.loop-i.i c.requires.within c.if-depth-eq0.false c.loop-i.invariant c.loop-i-test.false _ _ c.has_tag.ensures c.if-not-has_tag.false c.has_tag-2.ensures c.if-not-has_tag-2.true

pub returns : goal.returns
returns t c = ordered_right c.args.t.now c.args.at c.args.tag c.args.end c.args.depth _ _ _ _ _ c.loop-i.i c.requires.within c.if-depth-eq0.false c.loop-i.invariant c.loop-i-test.false _ _ c.has_tag.ensures c.if-not-has_tag.false c.has_tag-2.ensures c.if-not-has_tag-2.false
