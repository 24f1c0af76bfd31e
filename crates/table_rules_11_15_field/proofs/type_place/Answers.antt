use Rattle.table_rules_11_15_field.proofs.OwnLaws.{type_kept, type_broken}
use Rattle.table_types.proofs.SlimLaws.{slim_type}
use Rattle.table_members.specs.Members.{member_from}
use Rattle.paper_table.specs.Types.{table_of, can_be}
use Rattle.paper_table.specs.SubTypes.{sub_test}
use mathlib.Core.Bool.{not}
use mathlib.Core.Path.{◌≡◌, sym, ap, ◌∙◌}
use Rattle.table_rules_11_15_field.proofs.type_place.Goals as goal

pub returns-then-is_sub_type : goal.returns-then-is_sub_type
returns-then-is_sub_type c = let a = c.args in
    let q : c.is_sub_type.result ≡ sub_test (can_be (table_of a.t.now)) (member_from a.t.now a.own_tag a.from a.stop).type (member_from a.t.now a.tag a.start a.end).type =
    c.is_sub_type.ensures (member_from a.t.now a.own_tag a.from a.stop).type (member_from a.t.now a.tag a.start a.end).type c.member_type-r.ensures c.member_type-q.ensures (slim_type (member_from a.t.now a.own_tag a.from a.stop) c.requires.4) (slim_type (member_from a.t.now a.tag a.start a.end) c.requires.3) in
    type_kept (table_of a.t.now) a.member a.part (member_from a.t.now a.tag a.start a.end) (member_from a.t.now a.own_tag a.from a.stop) (ap not (sym q ∙ c.if-is_sub_type.true))

pub returns : goal.returns
returns c = let a = c.args in
    let q : c.is_sub_type.result ≡ sub_test (can_be (table_of a.t.now)) (member_from a.t.now a.own_tag a.from a.stop).type (member_from a.t.now a.tag a.start a.end).type =
    c.is_sub_type.ensures (member_from a.t.now a.own_tag a.from a.stop).type (member_from a.t.now a.tag a.start a.end).type c.member_type-r.ensures c.member_type-q.ensures (slim_type (member_from a.t.now a.own_tag a.from a.stop) c.requires.4) (slim_type (member_from a.t.now a.tag a.start a.end) c.requires.3) in
    type_broken (table_of a.t.now) a.member a.part (member_from a.t.now a.tag a.start a.end) (member_from a.t.now a.own_tag a.from a.stop) (ap not (sym q ∙ c.if-is_sub_type.false))
