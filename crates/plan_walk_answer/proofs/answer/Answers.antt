-- `plan_walk_answer::answer` meets its contract: each way to its end is one case of `Walked`.
use mathlib.Core.Path.{refl, sym}
use Prim.Native.Nat.{ℕ}
use native.Mathlib.Nat.{le_of_eq}
use lib.Seq.{length-take-le}
use Rattle.paper_plan.specs.WalkNumbers.{pairs_size}
use Rattle.paper_plan.specs.WalkCalls.{short_report}
use Rattle.plan_walk_answer.proofs.WalkedLaws.{pairs_short, table_long, walked_beyond}
use Rattle.plan_walk_answer.proofs.answer.Goals as goal

pub returns-then-report-lt-REPORT_SIZE : goal.returns-then-report-lt-REPORT_SIZE
returns-then-report-lt-REPORT_SIZE c = short_report c.if-report-lt-REPORT_SIZE.true refl refl

pub returns-then-pairs-lt-PAIRS_SIZE : goal.returns-then-pairs-lt-PAIRS_SIZE
returns-then-pairs-lt-PAIRS_SIZE c = let t = c.tell_refusal.ensures in
    pairs_short _ _ _ _ _ _ _ _ _ c.if-report-lt-REPORT_SIZE.false c.if-pairs-lt-PAIRS_SIZE.true t.0 t.1

pub returns-then-table-gt-MOST_TABLE : goal.returns-then-table-gt-MOST_TABLE
returns-then-table-gt-MOST_TABLE c = let t = c.tell_refusal-then-table-gt-MOST_TABLE.ensures in
    table_long _ _ _ _ _ _ _ _ _ (c.if-report-lt-REPORT_SIZE.false, c.if-pairs-lt-PAIRS_SIZE.false) c.if-table-gt-MOST_TABLE.true t.0 t.1

pub slice_bounds-walk-end-2 : goal.slice_bounds-walk-end-2
slice_bounds-walk-end-2 c = sym (length-take-le {A = ℕ} pairs_size c.args.pairs.now c.if-pairs-lt-PAIRS_SIZE.false)

pub walk-requires : goal.walk-requires
walk-requires c = let size = length-take-le {A = ℕ} pairs_size c.args.pairs.now c.if-pairs-lt-PAIRS_SIZE.false in
    ((c.if-report-lt-REPORT_SIZE.false, le_of_eq (sym size)), c.if-table-gt-MOST_TABLE.false, size)

pub returns : goal.returns
returns c = walked_beyond _ _ _ _ _ _ _ _ _ _ (c.if-report-lt-REPORT_SIZE.false, c.if-pairs-lt-PAIRS_SIZE.false) c.if-table-gt-MOST_TABLE.false refl c.walk.ensures
