-- `call_report::tell_in_text` meets its contract: 3 to 6 show the text behind the offset, the others one number.
use mathlib.Core.Path.{sym, ◌∙◌}
use mathlib.Core.Bool.{true, false}
use Rattle.call_report.proofs.ReportLaws.{text_told}
use Rattle.call_report.proofs.tell_in_text.Goals as goal

pub returns-then-is_of_text : goal.returns-then-is_of_text
returns-then-is_of_text c = text_told c.args.r c.args.text c.args.report.now _ _ _ c.number_of-number.ensures c.shown_of-shown.ensures true
    (sym c.if-is_of_text.true ∙ c.is_of_text.ensures) c.tell_five.ensures

pub returns : goal.returns
returns c = text_told c.args.r c.args.text c.args.report.now _ _ _ c.number_of-number.ensures c.shown_of-shown.ensures false
    (sym c.if-is_of_text.false ∙ c.is_of_text.ensures) c.tell.ensures
