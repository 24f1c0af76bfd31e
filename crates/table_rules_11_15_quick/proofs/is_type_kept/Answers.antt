-- Of one text, or by the test of sub-types.
use Rattle.paper_table.specs.Types.{table_of}
use Rattle.table_members.specs.Members.{field_from}
use Rattle.table_types.proofs.SlimLaws.{slim_type}
use Rattle.table_rules_11_15_quick.proofs.KeepingLaws.{same_type, sub_type}
use Rattle.table_rules_11_15_quick.proofs.is_type_kept.Goals as goal

pub returns-then-is_alike : goal.returns-then-is_alike
returns-then-is_alike c = let a = c.args in
    λ z. same_type (table_of a.t.now) (field_from a.t.now a.start a.end) (field_from a.t.now a.from a.stop) (c.is_alike.ensures c.if-is_alike.true)

pub is_below-requires : goal.is_below-requires
is_below-requires c = (c.requires.0, c.requires.1, c.type_in-r.ensures.within, c.type_in-q.ensures.within)

pub returns : goal.returns
returns c = let a = c.args in
    let f = field_from a.t.now a.start a.end in
    let e = field_from a.t.now a.from a.stop in
    λ z. sub_type (table_of a.t.now) f e (c.is_below.ensures e.type f.type c.type_in-r.ensures c.type_in-q.ensures (slim_type e c.requires.5) (slim_type f c.requires.4) z)
