-- `walk_with` meets its contract: the table is refused, or the plan is walked by it.
use mathlib.Core.Path.{sym, ◌∙◌}
use Rattle.table_judge.proofs.BreakLaws.{not_accepted}
use Rattle.plan_walk_answer.proofs.WalkedLaws.{table_refused}
use borrow.Enum.Refused.{opened}
use Rattle.plan_walk_answer.proofs.walk_with.Goals as goal

pub returns-in_default : goal.returns-in_default
returns-in_default c = let p = c.requires in
    let t = c.tell_table.ensures in
    table_refused _ _ _ _ _ _ _ _ _ p.0 p.2 _ _ p.1 c.judge_with-a.ensures.is (not_accepted _ (opened c.in_default.in_default-own.keys2)) c.clear.ensures t.0 t.1

pub walk_plan-requires : goal.walk_plan-requires
walk_plan-requires c = let p = c.requires in
    let w = c.judge_with-a.ensures in
    let a = c.in-Accepted.is in
    (p.0, (p.1, sym w.is ∙ a), w.booked a, p.2)
