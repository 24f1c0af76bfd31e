-- By the wrappers, then the base.
use mathlib.Core.Path.{sym, ap, ◌∙◌}
use Prim.Native.Nat.{◌-◌}
use native.Mathlib.Omega.{arith}
use Rattle.paper.specs.Tokens.{same}
use Rattle.paper_query.specs.PlaceTypes.{shape_in, nullable}
use Rattle.table_members.specs.Members.{Typed}
use Rattle.query_rows.specs.Rowed.{row_in, doc_of}
use Rattle.query_rows.proofs.RowsIn.{rowed_sized}
use Rattle.query_place_types.specs.Shapes.{place_first, EntryStands, BookedEntry}
use Rattle.query_rules_10_11.proofs.VerdictLaws.{differ_unknown, differ_wrappers, differ_boolean, differ_base}
use Rattle.query_rules_10_11.proofs.differs.Goals as goal

pub returns-then-p-eq-PLACE_UNKNOWN : goal.returns-then-p-eq-PLACE_UNKNOWN
returns-then-p-eq-PLACE_UNKNOWN c = differ_unknown c.args.t.now c.args.es.now (shape_in (doc_of c.args.s.now c.args.rows.now c.args.n) (row_in c.args.rows.now c.args.n c.args.r)) c.args.p c.if-p-eq-PLACE_UNKNOWN.true

pub extra_of-declared-requires : goal.extra_of-declared-requires
extra_of-declared-requires c = rowed_sized c.requires.0

pub returns-then-bare-due : goal.returns-then-bare-due
returns-then-bare-due c = differ_wrappers c.args.t.now c.args.es.now (shape_in (doc_of c.args.s.now c.args.rows.now c.args.n) (row_in c.args.rows.now c.args.n c.args.r)) c.args.p c.if-p-eq-PLACE_UNKNOWN.false (λ z. c.if-bare-due.true (c.nullable_of-bare.ensures.0 ∙ ap nullable c.extra_of-declared.ensures ∙ z ∙ sym c.nullable_at-due.ensures.0))

pub is_called-requires : goal.is_called-requires
is_called-requires c = (c.requires.0, omega arith)

pub returns-then-p-eq-PLACE_BOOLEAN : goal.returns-then-p-eq-PLACE_BOOLEAN
returns-then-p-eq-PLACE_BOOLEAN c = differ_boolean c.args.t.now c.args.es.now (shape_in (doc_of c.args.s.now c.args.rows.now c.args.n) (row_in c.args.rows.now c.args.n c.args.r)) c.args.p c.if-p-eq-PLACE_UNKNOWN.false (sym (c.nullable_of-bare.ensures.0 ∙ ap nullable c.extra_of-declared.ensures) ∙ c.if-bare-due.false ∙ c.nullable_at-due.ensures.0) c.if-p-eq-PLACE_BOOLEAN.true c.is_called.ensures

pub overflow_sub-p : goal.overflow_sub-p
overflow_sub-p c = omega (arith, c.if-p-eq-PLACE_UNKNOWN.false, c.if-p-eq-PLACE_BOOLEAN.false)

pub overflow_cast-p : goal.overflow_cast-p
overflow_cast-p c = omega (arith, c.if-p-eq-PLACE_UNKNOWN.false, c.if-p-eq-PLACE_BOOLEAN.false)

pub type_of-b-requires : goal.type_of-b-requires
type_of-b-requires c = let w = (c.requires.1 (omega (arith, c.if-p-eq-PLACE_UNKNOWN.false, c.if-p-eq-PLACE_BOOLEAN.false))).stands in
    w.most

pub is_called-requires-2 : goal.is_called-requires-2
is_called-requires-2 c =
    let held : BookedEntry c.args.t.now c.args.es.now (c.args.p.at - place_first) = c.requires.1 (omega (arith, c.if-p-eq-PLACE_UNKNOWN.false, c.if-p-eq-PLACE_BOOLEAN.false)) in
    let stands : EntryStands c.args.t.now held.book c.args.es.now (c.args.p.at - place_first) = held.stands in
    let typed : Typed c.args.t.now c.type_of-b.result.at c.type_of-b.result.size c.type_of-b.result.wrappers stands.type = c.type_of-b.ensures c.args.t.now held.book stands.name stands.type stands.is in
    (c.requires.0, typed.within)

pub returns : goal.returns
returns c =
    let held : BookedEntry c.args.t.now c.args.es.now (c.args.p.at - place_first) = c.requires.1 (omega (arith, c.if-p-eq-PLACE_UNKNOWN.false, c.if-p-eq-PLACE_BOOLEAN.false)) in
    let stands : EntryStands c.args.t.now held.book c.args.es.now (c.args.p.at - place_first) = held.stands in
    let typed : Typed c.args.t.now c.type_of-b.result.at c.type_of-b.result.size c.type_of-b.result.wrappers stands.type = c.type_of-b.ensures c.args.t.now held.book stands.name stands.type stands.is in
    differ_base c.args.t.now c.args.es.now (shape_in (doc_of c.args.s.now c.args.rows.now c.args.n) (row_in c.args.rows.now c.args.n c.args.r)) c.args.p c.if-p-eq-PLACE_UNKNOWN.false (sym (c.nullable_of-bare.ensures.0 ∙ ap nullable c.extra_of-declared.ensures) ∙ c.if-bare-due.false ∙ c.nullable_at-due.ensures.0) c.if-p-eq-PLACE_BOOLEAN.false (c.is_called-2.ensures ∙ ap (same (shape_in (doc_of c.args.s.now c.args.rows.now c.args.n) (row_in c.args.rows.now c.args.n c.args.r)).base) (typed.base ∙ sym stands.is.typed.base))
