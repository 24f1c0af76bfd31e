use Rattle.std.specs.Prelude.{Some, None}
use mathlib.Core.Bool.{true}
use Rattle.table_fields.proofs.BoundsLaws.{narrow}
use mathlib.Core.Path.{◌≡◌, sym, ap, subst, ◌∙◌}
use mathlib.Core.Option.{none}
use mathlib.Core.List.{List, head?}
use Rattle.paper_table.specs.Lists.{find}
use Rattle.paper_table.specs.Types.{member_named}
use Rattle.paper_table.specs.Places.{Place}
use Rattle.paper_table.specs.Types.{Member, table_of}
use mathlib.Core.Option.{Option}
use Rattle.table_fields.specs.Fields.{Bounds}
use Rattle.table_places.specs.Placed.{placed}
use Rattle.table_members.specs.Members.{member_from, members_in, Finds, FindMember}
use Rattle.table_types.specs.Sizes.{slim_member}
use Rattle.table_rules_11_15.specs.Asked.{own_asked}
use Rattle.table_types.proofs.SlimLaws.{all_found}
use Rattle.table_rules_11_15.proofs.AskedLaws.{none_own, some_own}
use Rattle.table_rules_11_15.proofs.field_place.Goals as goal

pub returns-in_default : goal.returns-in_default
returns-in_default c =
    let not_found : let a = c.args in find (member_named (member_from a.t.now a.tag a.start a.end).name) (members_in a.t.now a.from a.stop) ≡ none = let a = c.args in
    let f : FindMember a.t.now a.from a.stop (member_from a.t.now a.tag a.start a.end).name None =
    subst (FindMember a.t.now a.from a.stop (member_from a.t.now a.tag a.start a.end).name) c.in_default.is (rw (← c.member_name-n.ensures.is) c.find_listed.ensures) in
    f in
    let a = c.args in
    c.lacking.ensures
    ∙ ap (λ (qs : List Place). placed (head? qs)) (sym (none_own a.rule (table_of a.t.now) a.member a.part (member_from a.t.now a.tag a.start a.end)))
    ∙ ap (λ (o : Option Member). placed (head? (own_asked a.rule (table_of a.t.now) a.member a.part (member_from a.t.now a.tag a.start a.end) o))) (sym not_found)

pub own_place-requires : goal.own_place-requires
own_place-requires c =
    let found : let a = c.args in Finds a.from a.stop c.in-Some.f.start c.in-Some.f.end (find (member_named (member_from a.t.now a.tag a.start a.end).name) (members_in a.t.now a.from a.stop)) (member_from a.t.now c.in-Some.f.tag c.in-Some.f.start c.in-Some.f.end) = let a = c.args in
    let f : FindMember a.t.now a.from a.stop (member_from a.t.now a.tag a.start a.end).name (Some c.in-Some.f) =
    subst (FindMember a.t.now a.from a.stop (member_from a.t.now a.tag a.start a.end).name) c.in-Some.is (rw (← c.member_name-n.ensures.is) c.find_listed.ensures) in
    f in
    let own-pre : let a = c.args in Bounds a.t.now c.in-Some.f.start c.in-Some.f.end × (slim_member (member_from a.t.now c.in-Some.f.tag c.in-Some.f.start c.in-Some.f.end) ≡ true) = let p = c.requires in
    let f = found in
    (narrow p.2 f.lies.order f.lies.within, all_found slim_member _ _ _ f.is p.4) in
    let p = c.requires in
    let q = own-pre in
    (p.0, p.1, q.0, p.3, q.1)

pub returns : goal.returns
returns c =
    let found : let a = c.args in Finds a.from a.stop c.in-Some.f.start c.in-Some.f.end (find (member_named (member_from a.t.now a.tag a.start a.end).name) (members_in a.t.now a.from a.stop)) (member_from a.t.now c.in-Some.f.tag c.in-Some.f.start c.in-Some.f.end) = let a = c.args in
    let f : FindMember a.t.now a.from a.stop (member_from a.t.now a.tag a.start a.end).name (Some c.in-Some.f) =
    subst (FindMember a.t.now a.from a.stop (member_from a.t.now a.tag a.start a.end).name) c.in-Some.is (rw (← c.member_name-n.ensures.is) c.find_listed.ensures) in
    f in
    let a = c.args in
    c.own_place.ensures
    ∙ ap (λ (qs : List Place). placed (head? qs)) (sym (some_own a.rule (table_of a.t.now) a.member a.part (member_from a.t.now a.tag a.start a.end) _))
    ∙ ap (λ (o : Option Member). placed (head? (own_asked a.rule (table_of a.t.now) a.member a.part (member_from a.t.now a.tag a.start a.end) o))) (sym found.is)
