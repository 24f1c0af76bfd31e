use mathlib.Core.Path.{sym, ◌∙◌}
use native.Mathlib.Omega.{arith}
use Rattle.query_rows.proofs.Rooms.{room_at}
use Rattle.query_places.proofs.PlacedLaws.{placed_enclosed}
use Rattle.query_row_verdict.proofs.RowLaws.{spread_only, directive_only, condition_only, variable_only, other_kind}
use Rattle.query_row_verdict.proofs.rule_at.Goals as goal

pub fragment_rule-requires : goal.fragment_rule-requires
fragment_rule-requires c = let p = c.requires in
    let r = p.0 in
    (r.asked.rowed, r.kinds, room_at _ _ _ r.flagged.size r.asked.rowed.few p.1, p.1, sym c.kind_of-kind.ensures ∙ c.in-2.is)

pub field_rule-requires : goal.field_rule-requires
field_rule-requires c = let p = c.requires in
    let r = p.0 in
    (r.asked.rowed, r.asked.family, placed_enclosed r.placed, p.1, sym c.kind_of-kind.ensures ∙ c.in-3.is)

pub bounds-flags-i : goal.bounds-flags-i
bounds-flags-i c = let p = c.requires in
    room_at _ _ _ p.0.flagged.size p.0.asked.rowed.few p.1

pub overflow_cast-result : goal.overflow_cast-result
overflow_cast-result c = omega (arith, c.shared_slice_known-in-20-1.given c.args.i)

pub returns-in-2 : goal.returns-in-2
returns-in-2 c = c.fragment_rule.ensures _ c.requires.0.flagged

pub returns-in-4 : goal.returns-in-4
returns-in-4 c = spread_only (sym c.kind_of-kind.ensures ∙ c.in-4.is) _ c.spread_of_none.ensures c.rule_if.ensures

pub returns-in-7 : goal.returns-in-7
returns-in-7 c = directive_only (sym c.kind_of-kind.ensures ∙ c.in-7.is) _ c.directive_wrong.ensures c.rule_if-in-7.ensures

pub returns-in-9 : goal.returns-in-9
returns-in-9 c = condition_only (sym c.kind_of-kind.ensures ∙ c.in-9.is) _ c.condition_wrong.ensures c.rule_if-in-9.ensures

pub returns-in-20 : goal.returns-in-20
returns-in-20 c = let a = c.args in
    variable_only (sym c.kind_of-kind.ensures ∙ c.in-20.is) (c.requires.0.flagged.flags a.i)

pub returns-in_default : goal.returns-in_default
returns-in_default c = let o = c.in_default.in_default-own.rest in
    other_kind c.kind_of-kind.ensures o.0.0.0.0.0.0.0.0.1 o.0.0.0.0.0.0.0.1 o.0.0.0.0.0.0.1 o.0.0.0.0.0.1 o.0.0.0.0.1 o.0.0.0.1 o.0.0.1 o.0.1 o.1
