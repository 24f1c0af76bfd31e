-- The reference in the first field of the tag.
use mathlib.Core.Path.{subst}
use Rattle.table_fields.specs.Wrappers.{Refers, RefersRead}
use Rattle.table_members.proofs.TypeLaws.{type_found, type_none}
use Rattle.table_members.proofs.type_in.Goals as goal

pub returns-in_default : goal.returns-in_default
returns-in_default c = let a = c.args in
    type_none a.t.now a.start a.end _ _ c.find_tag-p.ensures c.requires.within c.requires.order (subst (RefersRead a.t.now c.find_tag-p.result.start c.find_tag-p.result.end) c.in_default.is c.read_reference.ensures)

pub overflow_sub-result : goal.overflow_sub-result
overflow_sub-result c =
    let found : Refers c.args.t.now c.find_tag-p.result.start c.find_tag-p.result.end c.in-Some.r.start c.in-Some.r.end c.in-Some.r.wrappers = subst (RefersRead c.args.t.now c.find_tag-p.result.start c.find_tag-p.result.end) c.in-Some.is c.read_reference.ensures in
    found.order

pub returns : goal.returns
returns c =
    let found : Refers c.args.t.now c.find_tag-p.result.start c.find_tag-p.result.end c.in-Some.r.start c.in-Some.r.end c.in-Some.r.wrappers = subst (RefersRead c.args.t.now c.find_tag-p.result.start c.find_tag-p.result.end) c.in-Some.is c.read_reference.ensures in
    let a = c.args in
    type_found a.t.now a.start a.end _ _ c.find_tag-p.ensures c.requires.within _ _ _ found
