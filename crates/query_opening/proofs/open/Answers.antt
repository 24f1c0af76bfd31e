use mathlib.Core.List.{[]}
use mathlib.Core.Path.{sym, ◌∙◌}
use Rattle.table_judge.proofs.BreakLaws.{not_accepted}
use Rattle.query_opening.proofs.OpeningLaws.{is_bad_table}
use borrow.Enum.Refused.{opened}
use Rattle.query_opening.proofs.open.Goals as goal

pub returns-in_default : goal.returns-in_default
returns-in_default c = is_bad_table _ _ _ [] [] _ c.judge_with-a.ensures.is (not_accepted _ (opened c.in_default.in_default-own.keys2))

pub open_text-requires : goal.open_text-requires
open_text-requires c = let p = c.requires in
    let w = c.judge_with-a.ensures in
    let e = c.in-Accepted.is in
    (p.0, sym w.is ∙ e, w.booked e, p.2)
