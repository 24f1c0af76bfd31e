-- `text_references::typed` meets its contract: each way out is a law of `TypeLaws`.
use mathlib.Core.List.{[]}
use Rattle.text_cursor.proofs.Exits.{handed_on}
use Rattle.text_references.proofs.MovedLaws.{end_within}
use Rattle.text_references.proofs.TypeLaws.{rest_none, rest_stop, rest_done}
use Rattle.text_references.proofs.typed.Goals as goal

pub returns-then-name-ne-TOKEN_NAME : goal.returns-then-name-ne-TOKEN_NAME
returns-then-name-ne-TOKEN_NAME c = rest_none _ _ _ _ _ _ c.requires _ c.if-name-ne-TOKEN_NAME.true c.no_going.result c.no_going.ensures

pub overflow_sub-name : goal.overflow_sub-name
overflow_sub-name c = (end_within _ c.args.w.at c.requires.seen.within c.requires.seen.looks).0

pub returns : goal.returns
returns c = rest_done _ _ _ _ _ _ c.requires _ c.base_type.result _ c.base_type.ensures c.in_ok-v.was c.put_row.ensures

pub returns-in_err-v : goal.returns-in_err-v
returns-in_err-v c = rw (handed_on _ _ c.from_residual.ensures) (rest_stop _ _ _ _ _ _ c.requires [] c.base_type.result _ c.base_type.ensures c.in_err-v.was)
