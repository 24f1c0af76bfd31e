use Rattle.std.specs.Prelude.{Some, None}
use Rattle.table_types.proofs.SlimLaws.{all_found}
use Rattle.table_types.specs.Sizes.{slim_argument}
use Rattle.table_rules_13_15.specs.Asked.{failing}
use Rattle.table_members.specs.Members.{arguments_in, argument_from, Finds, FindArgument}
use Rattle.paper_table.specs.Types.{argument_named}
use Rattle.paper_table.specs.Lists.{find}
use mathlib.Core.Path.{sym, ap, subst, ◌∙◌}
use Rattle.table_fields.proofs.BoundsLaws.{narrow}
use Rattle.table_rules_13_15.proofs.is_wrong.Goals as goal

pub returns-in_default : goal.returns-in_default
returns-in_default c = let a = c.args in
    let x = argument_from a.t.now a.start a.end in
    let f : FindArgument a.t.now a.from a.stop x.name None =
    subst (FindArgument a.t.now a.from a.stop x.name) c.in_default.is (rw (← c.name_in-n.ensures.is) c.find_argument.ensures) in
    c.is_alone_wrong.ensures ∙ ap (failing a.rule x) (sym f)

pub is_beside_wrong-requires : goal.is_beside_wrong-requires
is_beside_wrong-requires c =
    let found : let a = c.args in Finds a.from a.stop c.in-Some.f.start c.in-Some.f.end (find (argument_named (argument_from a.t.now a.start a.end).name) (arguments_in a.t.now a.from a.stop)) (argument_from a.t.now c.in-Some.f.start c.in-Some.f.end) = let a = c.args in
    let f : FindArgument a.t.now a.from a.stop (argument_from a.t.now a.start a.end).name (Some c.in-Some.f) =
    subst (FindArgument a.t.now a.from a.stop (argument_from a.t.now a.start a.end).name) c.in-Some.is (rw (← c.name_in-n.ensures.is) c.find_argument.ensures) in
    f in
    let p = c.requires in
    let f = found in
    (p.0, narrow p.1 f.lies.order f.lies.within, p.2, all_found slim_argument _ _ _ f.is p.3)

pub returns : goal.returns
returns c =
    let found : let a = c.args in Finds a.from a.stop c.in-Some.f.start c.in-Some.f.end (find (argument_named (argument_from a.t.now a.start a.end).name) (arguments_in a.t.now a.from a.stop)) (argument_from a.t.now c.in-Some.f.start c.in-Some.f.end) = let a = c.args in
    let f : FindArgument a.t.now a.from a.stop (argument_from a.t.now a.start a.end).name (Some c.in-Some.f) =
    subst (FindArgument a.t.now a.from a.stop (argument_from a.t.now a.start a.end).name) c.in-Some.is (rw (← c.name_in-n.ensures.is) c.find_argument.ensures) in
    f in
    let a = c.args in
    c.is_beside_wrong.ensures ∙ ap (failing a.rule (argument_from a.t.now a.start a.end)) (sym found.is)
