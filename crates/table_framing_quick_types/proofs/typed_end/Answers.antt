-- A name is read, and behind it a type.
use Rattle.std.specs.Prelude.{Some}
use Rattle.table_fields.proofs.BoundsLaws.{later, narrow}
use mathlib.Core.Path.{◌≡◌, sym, ◌∙◌}
use Rattle.table_fields.specs.Fields.{field_at}
use Rattle.table_fields.proofs.FieldLaws.{Lies, field_lies}
use Rattle.table_framing_quick_types.proofs.FineLaws.{begins_with}
use Rattle.table_framing_quick_types.proofs.typed_end.Goals as goal

pub is_name-requires : goal.is_name-requires
is_name-requires c =
    let name-read : field_at c.args.t.now c.args.start c.args.end ≡ Some c.in_ok-f.f = sym c.read_field.ensures ∙ c.in_ok-f.was in
    let name_lies : Lies c.args.start c.args.end c.in_ok-f.f.start c.in_ok-f.f.end = field_lies c.args.t.now c.args.start c.args.end _ c.requires.order name-read in
    let l = name_lies in narrow c.requires l.order l.within

pub read_field-requires-2 : goal.read_field-requires-2
read_field-requires-2 c =
    let name-read : field_at c.args.t.now c.args.start c.args.end ≡ Some c.in_ok-f.f = sym c.read_field.ensures ∙ c.in_ok-f.was in
    let name_lies : Lies c.args.start c.args.end c.in_ok-f.f.start c.in_ok-f.f.end = field_lies c.args.t.now c.args.start c.args.end _ c.requires.order name-read in
    let l = name_lies in later c.requires l.within

pub is_usual_reference-requires : goal.is_usual_reference-requires
is_usual_reference-requires c =
    let name-read : field_at c.args.t.now c.args.start c.args.end ≡ Some c.in_ok-f.f = sym c.read_field.ensures ∙ c.in_ok-f.was in
    let name_lies : Lies c.args.start c.args.end c.in_ok-f.f.start c.in_ok-f.f.end = field_lies c.args.t.now c.args.start c.args.end _ c.requires.order name-read in
    let type-read : field_at c.args.t.now c.in_ok-f.f.end c.args.end ≡ Some c.in_ok-g.g = sym c.read_field-2.ensures ∙ c.in_ok-g.was in
    let type-lies : Lies c.in_ok-f.f.end c.args.end c.in_ok-g.g.start c.in_ok-g.g.end = let l = name_lies in field_lies c.args.t.now c.in_ok-f.f.end c.args.end _ l.within type-read in
    let l = type-lies in narrow c.requires l.order l.within

pub returns : goal.returns
returns c =
    let name-read : field_at c.args.t.now c.args.start c.args.end ≡ Some c.in_ok-f.f = sym c.read_field.ensures ∙ c.in_ok-f.was in
    let type-read : field_at c.args.t.now c.in_ok-f.f.end c.args.end ≡ Some c.in_ok-g.g = sym c.read_field-2.ensures ∙ c.in_ok-g.was in
    begins_with c.args.t.now c.args.start c.args.end _ _ c.requires.order c.requires.within name-read c.if-f-ne-TAG_NAME.false (sym c.is_name.ensures ∙ c.if-not-is_name.false) type-read c.if-g-ne-TAG_REFERENCE.false (c.is_usual_reference.ensures c.if-not-is_usual_reference.false)
