-- The definition's own field of the name is found, and keeps the other rules.
use Rattle.std.specs.Prelude.{Some}
use Rattle.table_fields.proofs.BoundsLaws.{narrow}
use mathlib.Core.Path.{sym, ap, subst, ◌∙◌}
use mathlib.Core.Bool.{false≢true}
use Rattle.paper_table.specs.Types.{table_of}
use Rattle.table_book.specs.Book.{part}
use Rattle.table_members.specs.Members.{members_in, FindMember}
use Rattle.table_members.proofs.MemberLaws.{field_is}
use Rattle.table_types.specs.Sizes.{slim_member}
use Rattle.table_types.proofs.SlimLaws.{all_found}
use Rattle.table_rules_11_15_quick.proofs.KeepingLaws.{field_kept_by}
use Rattle.table_rules_11_15_quick.proofs.is_field_kept.Goals as goal

pub returns-then-tag-ne-TAG_FIELD : goal.returns-then-tag-ne-TAG_FIELD
returns-then-tag-ne-TAG_FIELD c = λ z. absurd (false≢true z)

pub find_listed-requires : goal.find_listed-requires
find_listed-requires c = (c.requires.6, c.name_in-n.ensures.within)

pub returns-in_default : goal.returns-in_default
returns-in_default c = λ z. absurd (false≢true z)

pub returns-then-f-ne-TAG_FIELD : goal.returns-then-f-ne-TAG_FIELD
returns-then-f-ne-TAG_FIELD c = λ z. absurd (false≢true z)

pub is_own_kept-requires : goal.is_own_kept-requires
is_own_kept-requires c =
    let found : FindMember c.args.t.now c.args.from c.args.stop (part c.args.t.now c.name_in-n.result.at c.name_in-n.result.size) (Some c.in-Some.f) = subst (FindMember c.args.t.now c.args.from c.args.stop (part c.args.t.now c.name_in-n.result.at c.name_in-n.result.size)) c.in-Some.is c.find_listed.ensures in
    let a = c.args in
    let p = c.requires in
    let f = found in
    (p.0, p.1, p.2, narrow p.3 f.lies.order f.lies.within, ap slim_member (sym (field_is a.t.now a.tag a.start a.end c.if-tag-ne-TAG_FIELD.false)) ∙ p.4, ap slim_member (sym (field_is a.t.now c.in-Some.f.tag c.in-Some.f.start c.in-Some.f.end c.if-f-ne-TAG_FIELD.false)) ∙ all_found slim_member _ _ _ f.is p.5)

pub returns : goal.returns
returns c =
    let found : FindMember c.args.t.now c.args.from c.args.stop (part c.args.t.now c.name_in-n.result.at c.name_in-n.result.size) (Some c.in-Some.f) = subst (FindMember c.args.t.now c.args.from c.args.stop (part c.args.t.now c.name_in-n.result.at c.name_in-n.result.size)) c.in-Some.is c.find_listed.ensures in
    let a = c.args in
    let f = found in
    λ z. field_kept_by a.t.now (table_of a.t.now) (members_in a.t.now a.from a.stop) a.tag a.start a.end c.in-Some.f.tag c.in-Some.f.start c.in-Some.f.end (part a.t.now c.name_in-n.result.at c.name_in-n.result.size) c.if-tag-ne-TAG_FIELD.false c.if-f-ne-TAG_FIELD.false c.name_in-n.ensures.is f.is (c.is_own_kept.ensures z)
