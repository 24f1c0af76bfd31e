-- The first field of the tag.
use Rattle.std.specs.Prelude.{Some}
use mathlib.Core.Path.{subst}
use Rattle.paper_table.specs.TableNumbers.{tag_name}
use Rattle.table_members.specs.Members.{NextTag}
use Rattle.table_members.proofs.TagLaws.{name_found, name_none}
use Rattle.table_members.proofs.name_in.Goals as goal

pub returns-in_default : goal.returns-in_default
returns-in_default c = let a = c.args in
    name_none a.t.now a.start a.end c.requires.order c.requires.within (subst (NextTag a.t.now a.start a.end tag_name) c.in_default.is c.next_tag.ensures)

pub overflow_sub-result : goal.overflow_sub-result
overflow_sub-result c =
    let found : NextTag c.args.t.now c.args.start c.args.end tag_name (Some c.in-Some.f) = subst (NextTag c.args.t.now c.args.start c.args.end tag_name) c.in-Some.is c.next_tag.ensures in
    found.lies.order

pub returns : goal.returns
returns c =
    let found : NextTag c.args.t.now c.args.start c.args.end tag_name (Some c.in-Some.f) = subst (NextTag c.args.t.now c.args.start c.args.end tag_name) c.in-Some.is c.next_tag.ensures in
    let a = c.args in
    name_found a.t.now a.start a.end c.requires.within c.in-Some.f found
