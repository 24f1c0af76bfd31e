-- `text_answer::answer` meets its contract: each way to its end is one case of `Parsed`.
use mathlib.Core.Path.{refl, sym}
use Prim.Native.Nat.{ℕ}
use lib.Seq.{length-take-le}
use Rattle.paper.specs.Numbers.{rows_size}
use Rattle.paper.specs.Calls.{short_report}
use Rattle.call_buffers.proofs.SizeLaws.{sizes_kept}
use Rattle.text_answer.proofs.ParsedLaws.{parsed_unmet, parsed_told}
use Rattle.text_answer.proofs.answer.Goals as goal

pub returns-then-report-lt-REPORT_SIZE : goal.returns-then-report-lt-REPORT_SIZE
returns-then-report-lt-REPORT_SIZE c = short_report c.if-report-lt-REPORT_SIZE.true refl refl

pub slice_bounds-parse-end : goal.slice_bounds-parse-end
slice_bounds-parse-end c = (sizes_kept c.sizes_met-s.ensures c.in-Ok.is).0

pub slice_bounds-parse-end-in-Ok : goal.slice_bounds-parse-end-in-Ok
slice_bounds-parse-end-in-Ok c = sym (length-take-le {A = ℕ} rows_size c.args.rows.now (sizes_kept c.sizes_met-s.ensures c.in-Ok.is).0)

pub parse-r-requires : goal.parse-r-requires
parse-r-requires c = let k = sizes_kept c.sizes_met-s.ensures c.in-Ok.is in
    (k.1, length-take-le {A = ℕ} rows_size c.args.rows.now k.0)

pub returns-in-Ok : goal.returns-in-Ok
returns-in-Ok c = let k = sizes_kept c.sizes_met-s.ensures c.in-Ok.is in
    parsed_told _ _ _ _ _ _ c.if-report-lt-REPORT_SIZE.false k.0 k.1 refl _ _ c.parse-r.ensures c.tell_read.ensures

pub returns-in-Err : goal.returns-in-Err
returns-in-Err c = let t = c.tell_refusal.ensures in
    parsed_unmet _ _ _ _ _ _ _ c.if-report-lt-REPORT_SIZE.false c.sizes_met-s.ensures c.in-Err.is t.0 t.1
