-- `value_endings::tell` meets its contract: what is written up to its place, or a refusal.
use Rattle.value_endings.proofs.EndLaws.{leaves_value, leaves_refusal}
use Rattle.value_endings.proofs.tell.Goals as goal

pub returns-then-at-le-MOST_COERCED : goal.returns-then-at-le-MOST_COERCED
returns-then-at-le-MOST_COERCED c = leaves_value c.args.e c.args.value.now c.args.report.now _ _ c.requires.1 _ c.written-at.ensures c.if-at-le-MOST_COERCED.true c.clear.ensures c.tell.ensures

pub returns : goal.returns
returns c = leaves_refusal c.args.e c.args.value.now c.args.report.now _ _ c.requires.1 _ c.written-at.ensures _ c.if-at-le-MOST_COERCED.false c.clear-2.ensures c.tell_refused.ensures
