-- By the sort, and then the kind.
use Rattle.value_tokens.proofs.TokenLaws.{takes_not, takes_low, takes_high}
use Rattle.value_tokens.proofs.takes_fields.Goals as goal

pub returns-then-sort-ne-SORT_INPUT : goal.returns-then-sort-ne-SORT_INPUT
returns-then-sort-ne-SORT_INPUT c = takes_not c.args.kind c.args.sort c.if-sort-ne-SORT_INPUT.true

pub returns-then-kind-lt-KIND_VARIABLE : goal.returns-then-kind-lt-KIND_VARIABLE
returns-then-kind-lt-KIND_VARIABLE c = takes_low c.args.kind c.args.sort c.if-sort-ne-SORT_INPUT.false c.if-kind-lt-KIND_VARIABLE.true

pub returns : goal.returns
returns c = takes_high c.args.kind c.args.sort c.if-sort-ne-SORT_INPUT.false c.if-kind-lt-KIND_VARIABLE.false
