-- `call_report::tell_table` meets its contract: each variant has its own numbers to show.
use Rattle.call_report.proofs.ReportLaws.{table_told}
use Rattle.call_report.proofs.tell_table.Goals as goal

pub returns-in-Accepted : goal.returns-in-Accepted
returns-in-Accepted c = table_told _ _ c.args.report.now _ _ c.table_number_of-number.ensures c.in-Accepted.is c.tell.ensures

pub returns-in-Framing : goal.returns-in-Framing
returns-in-Framing c = table_told _ _ c.args.report.now _ _ c.table_number_of-number.ensures c.in-Framing.is c.tell-in-Framing.ensures

pub returns-in-TooMany : goal.returns-in-TooMany
returns-in-TooMany c = table_told _ _ c.args.report.now _ _ c.table_number_of-number.ensures c.in-TooMany.is c.tell-in-TooMany.ensures

pub returns-in-Breaks : goal.returns-in-Breaks
returns-in-Breaks c = table_told _ _ c.args.report.now _ _ c.table_number_of-number.ensures c.in-Breaks.is c.tell_five.ensures
