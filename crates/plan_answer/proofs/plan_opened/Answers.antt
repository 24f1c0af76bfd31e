-- `plan_answer::plan_opened` meets its contract: what is made is told.
use mathlib.Core.Path.{◌∙◌}
use lib.ListN.{take}
use Rattle.paper.specs.Numbers.{rows_size}
use Rattle.paper_table.specs.Types.{table_of}
use Rattle.query_rows.specs.Rowed.{doc_of}
use Rattle.plan_answer.proofs.PlanLaws.{made_steps, left_told}
use Rattle.plan_answer.proofs.plan_opened.Goals as goal

pub make-steps-requires : goal.make-steps-requires
make-steps-requires c = (c.requires.0, c.requires.1)

pub tell_made-requires : goal.tell_made-requires
tell_made-requires c = let p = c.requires in (c.plan-1.given ∙ p.1, p.2, made_steps c.make-steps.ensures)

pub returns : goal.returns
returns c = let a = c.args in
    let p = c.requires in
    left_told (table_of a.table.now) (doc_of a.document.now (take rows_size a.plan.now) a.n) a.o a.plan.now _ _ a.report.now _ p.1 _ _ c.make-steps.ensures (c.plan-1.given ∙ p.1) c.tell_made.ensures
