-- `call_report::tell_refusal` meets its contract: its number and what it shows are the whole report.
use Rattle.call_report.proofs.ReportLaws.{refusal_told}
use Rattle.call_report.proofs.tell_refusal.Goals as goal

pub returns : goal.returns
returns c = let a = c.args in
    refusal_told a.r a.report.now _ _ _ c.number_of-number.ensures c.shown_of.ensures c.tell.ensures
