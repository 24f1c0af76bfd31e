-- By what is found.
use mathlib.Core.Path.{refl, ap, subst, ◌∙◌}
use Rattle.std.specs.Prelude.{Some}
use Rattle.paper_table.specs.Lists.{bytes}
use Rattle.table_types.proofs.Meanings.{query_own}
use Rattle.query_types.proofs.CompositeLaws.{composite_first}
use Rattle.query_roots.specs.Rooted.{RootFinds, RootWritten}
use Rattle.query_roots.proofs.RootLaws.{root_typed, root_untyped}
use Rattle.query_roots.proofs.root_type.Goals as goal

pub member_name-m-requires : goal.member_name-m-requires
member_name-m-requires c =
    let written : RootWritten c.args.t.now c.args.x c.in-Written.tag c.in-Written.start c.in-Written.end = let a = c.args in
    subst (RootFinds a.t.now a.x) (c.in-Some.is ∙ ap Some c.in-Written.is) c.find_root.ensures in
    written.bounds

pub returns-in-Written : goal.returns-in-Written
returns-in-Written c =
    let written : RootWritten c.args.t.now c.args.x c.in-Written.tag c.in-Written.start c.in-Written.end = let a = c.args in
    subst (RootFinds a.t.now a.x) (c.in-Some.is ∙ ap Some c.in-Written.is) c.find_root.ensures in
    let a = c.args in
    root_typed a.t.now a.x _ written.is _ c.member_name-m.ensures.is c.composite.ensures

pub returns-in-Query : goal.returns-in-Query
returns-in-Query c = let a = c.args in
    root_typed a.t.now a.x _ (subst (RootFinds a.t.now a.x) (c.in-Some.is ∙ ap Some c.in-Query.is) c.find_root.ensures) (bytes "Query") refl
    (composite_first a.t.now a.book.now c.requires (bytes "Query") c.first_query.ensures query_own c.if_composite.ensures)

pub returns-in_default : goal.returns-in_default
returns-in_default c = let a = c.args in
    root_untyped a.t.now a.x (subst (RootFinds a.t.now a.x) c.in_default.is c.find_root.ensures)
