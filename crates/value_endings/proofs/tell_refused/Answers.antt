-- `value_endings::tell_refused` meets its contract: each variant has its own number and shows its own.
use mathlib.Core.Path.{refl}
use Rattle.value_endings.proofs.EndLaws.{end_told, end_refused}
use Rattle.value_endings.proofs.tell_refused.Goals as goal

pub returns-in-NotOpened : goal.returns-in-NotOpened
returns-in-NotOpened c = end_refused _ _ _ c.args.report.now _ _ c.in-Err.is c.in-NotOpened.is c.tell_stop.ensures.0 c.tell_stop.ensures.1

pub returns-in-NotReached : goal.returns-in-NotReached
returns-in-NotReached c = end_refused _ _ _ c.args.report.now _ _ c.in-Err.is c.in-NotReached.is refl c.tell-in-NotReached.ensures

pub returns-in-BadText : goal.returns-in-BadText
returns-in-BadText c = end_refused _ _ _ c.args.report.now _ _ c.in-Err.is c.in-BadText.is c.tell_in_text.ensures.0 c.tell_in_text.ensures.1

pub returns-in-Refused : goal.returns-in-Refused
returns-in-Refused c = end_refused _ _ _ c.args.report.now _ _ c.in-Err.is c.in-Refused.is refl c.tell_five.ensures

pub returns-in_default : goal.returns-in_default
returns-in_default c = end_told _ _ c.args.report.now _ _ c.in_default.is refl c.tell.ensures
