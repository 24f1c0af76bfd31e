-- By the row's kind, its parent's, and what is kept of both.
use mathlib.Core.Path.{◌≡◌, sym, ap, ◌∙◌}
use Prim.Native.Nat.{ℕ}
use native.Mathlib.Omega.{arith}
use Rattle.paper.specs.Numbers.{kind_field, kind_argument}
use Rattle.paper_table.specs.Types.{table_of}
use Rattle.paper_query.specs.Constructs.{name_of}
use Rattle.paper_query.specs.Enclosing.{field_at}
use Rattle.paper_query.specs.Rule14Argument.{has_no_argument}
use Rattle.query_rows.specs.Rowed.{row_in, doc_of}
use Rattle.query_rows.proofs.RowsIn.{rowed_sized}
use Rattle.query_rows.proofs.Rooms.{room_enough}
use Rattle.query_due_types.proofs.PlaceCases.{field_there}
use Rattle.query_rule_14.proofs.KeptLaws.{argument_there, unknown_field, known_field}
use Rattle.query_rule_14.proofs.RuleLaws.{argument_other, argument_elsewhere, argument_judged}
use Rattle.query_rule_14.proofs.argument_unknown.Goals as goal

pub kind_of-requires : goal.kind_of-requires
kind_of-requires c = rowed_sized c.requires.0

pub returns-then-kind_of-ne-KIND_ARGUMENT : goal.returns-then-kind_of-ne-KIND_ARGUMENT
returns-then-kind_of-ne-KIND_ARGUMENT c = let a = c.args in
    argument_other (table_of a.t.now) (doc_of a.s.now a.rows.now a.n) a.i (λ z. c.if-kind_of-ne-KIND_ARGUMENT.true (c.kind_of.ensures ∙ z))

pub parent_of-p-requires : goal.parent_of-p-requires
parent_of-p-requires c = rowed_sized c.requires.0

pub kind_of-requires-2 : goal.kind_of-requires-2
kind_of-requires-2 c = rowed_sized c.requires.0

pub returns-then-kind_of-ne-KIND_FIELD : goal.returns-then-kind_of-ne-KIND_FIELD
returns-then-kind_of-ne-KIND_FIELD c =
    let kind : (row_in c.args.rows.now c.args.n c.args.i).kind ≡ kind_argument = sym c.kind_of.ensures ∙ c.if-kind_of-ne-KIND_ARGUMENT.false in
    let a = c.args in
    argument_elsewhere (table_of a.t.now) (doc_of a.s.now a.rows.now a.n) a.i kind (λ z. c.if-kind_of-ne-KIND_FIELD.true (c.kind_of-2.ensures ∙ ap (λ (p : ℕ). (row_in a.rows.now a.n p).kind) c.parent_of-p.ensures ∙ z))

pub bounds-at-p : goal.bounds-at-p
bounds-at-p c =
    let above : (row_in c.args.rows.now c.args.n c.parent_of-p.result).kind ≡ kind_field = sym c.kind_of-2.ensures ∙ c.if-kind_of-ne-KIND_FIELD.false in
    let g = c.requires in
    omega (arith, g.1.all.enclosed.ats, field_there _ _ _ above, room_enough _ g.0.few)

pub returns-then-at-p-lt-FIELD_TYPENAME : goal.returns-then-at-p-lt-FIELD_TYPENAME
returns-then-at-p-lt-FIELD_TYPENAME c =
    let kind : (row_in c.args.rows.now c.args.n c.args.i).kind ≡ kind_argument = sym c.kind_of.ensures ∙ c.if-kind_of-ne-KIND_ARGUMENT.false in
    let above : (row_in c.args.rows.now c.args.n c.parent_of-p.result).kind ≡ kind_field = sym c.kind_of-2.ensures ∙ c.if-kind_of-ne-KIND_FIELD.false in
    let g = c.requires in
    let a = c.args in
    argument_judged (table_of a.t.now) (doc_of a.s.now a.rows.now a.n) a.i kind (ap (λ (p : ℕ). (row_in a.rows.now a.n p).kind) (sym c.parent_of-p.ensures) ∙ above) (unknown_field _ _ _ _ _ _ _ g.0 g.1 _ kind _ c.parent_of-p.ensures above (omega (arith, c.if-at-p-lt-FIELD_TYPENAME.true)) ∙ ap (λ (p : ℕ). has_no_argument (field_at (table_of a.t.now) (doc_of a.s.now a.rows.now a.n) p) (name_of (doc_of a.s.now a.rows.now a.n) a.i)) c.parent_of-p.ensures)

pub offset_bounds-at-i : goal.offset_bounds-at-i
offset_bounds-at-i c =
    let kind : (row_in c.args.rows.now c.args.n c.args.i).kind ≡ kind_argument = sym c.kind_of.ensures ∙ c.if-kind_of-ne-KIND_ARGUMENT.false in
    let above : (row_in c.args.rows.now c.args.n c.parent_of-p.result).kind ≡ kind_field = sym c.kind_of-2.ensures ∙ c.if-kind_of-ne-KIND_FIELD.false in
    let g = c.requires in
    omega (arith, argument_there _ _ _ kind, field_there _ _ _ above, g.0.few)

pub bounds-at-i : goal.bounds-at-i
bounds-at-i c =
    let kind : (row_in c.args.rows.now c.args.n c.args.i).kind ≡ kind_argument = sym c.kind_of.ensures ∙ c.if-kind_of-ne-KIND_ARGUMENT.false in
    let above : (row_in c.args.rows.now c.args.n c.parent_of-p.result).kind ≡ kind_field = sym c.kind_of-2.ensures ∙ c.if-kind_of-ne-KIND_FIELD.false in
    let g = c.requires in
    omega (arith, g.1.all.enclosed.ats, argument_there _ _ _ kind, field_there _ _ _ above, room_enough _ g.0.few)

pub returns : goal.returns
returns c =
    let kind : (row_in c.args.rows.now c.args.n c.args.i).kind ≡ kind_argument = sym c.kind_of.ensures ∙ c.if-kind_of-ne-KIND_ARGUMENT.false in
    let above : (row_in c.args.rows.now c.args.n c.parent_of-p.result).kind ≡ kind_field = sym c.kind_of-2.ensures ∙ c.if-kind_of-ne-KIND_FIELD.false in
    let g = c.requires in
    let a = c.args in
    argument_judged (table_of a.t.now) (doc_of a.s.now a.rows.now a.n) a.i kind (ap (λ (p : ℕ). (row_in a.rows.now a.n p).kind) (sym c.parent_of-p.ensures) ∙ above) (known_field _ _ _ _ _ _ _ g.0 g.1 _ kind _ c.parent_of-p.ensures above (omega (arith, c.if-at-p-lt-FIELD_TYPENAME.false)) ∙ ap (λ (p : ℕ). has_no_argument (field_at (table_of a.t.now) (doc_of a.s.now a.rows.now a.n) p) (name_of (doc_of a.s.now a.rows.now a.n) a.i)) c.parent_of-p.ensures)
