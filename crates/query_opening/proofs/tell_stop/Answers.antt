-- `query_opening::tell_stop` meets its contract: each variant has its own number and shows its own.
use mathlib.Core.Path.{refl, ap, ◌∙◌}
use Rattle.std.specs.Prelude.{Err}
use Rattle.query_opening.proofs.StopLaws.{stop_told}
use Rattle.query_opening.proofs.tell_stop.Goals as goal

pub returns-in-BadTable : goal.returns-in-BadTable
returns-in-BadTable c = stop_told _ _ c.args.report.now _ _ (c.in-Err.is ∙ ap Err c.in-BadTable.is) c.tell_table.ensures.0 c.tell_table.ensures.1

pub returns-in-BadText : goal.returns-in-BadText
returns-in-BadText c = stop_told _ _ c.args.report.now _ _ (c.in-Err.is ∙ ap Err c.in-BadText.is) c.tell_refusal.ensures.0 c.tell_refusal.ensures.1

pub returns-in-Broken : goal.returns-in-Broken
returns-in-Broken c = stop_told _ _ c.args.report.now _ _ (c.in-Err.is ∙ ap Err c.in-Broken.is) refl c.tell_five.ensures

pub returns-in-NoOperation : goal.returns-in-NoOperation
returns-in-NoOperation c = stop_told _ _ c.args.report.now _ _ (c.in-Err.is ∙ ap Err c.in-NoOperation.is) refl c.tell-in-NoOperation.ensures

pub returns-in_default : goal.returns-in_default
returns-in_default c = stop_told _ _ c.args.report.now _ _ c.in_default.is refl c.tell.ensures
