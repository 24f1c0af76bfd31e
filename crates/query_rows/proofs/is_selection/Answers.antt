-- Between two kinds.
use mathlib.Core.Path.{refl}
use Rattle.query_rows.proofs.KindLaws.{selection_low, selection_rest}
use Rattle.query_rows.proofs.is_selection.Goals as goal

pub returns-then-kind-lt-KIND_FIELD : goal.returns-then-kind-lt-KIND_FIELD
returns-then-kind-lt-KIND_FIELD c = selection_low c.args.kind c.if-kind-lt-KIND_FIELD.true

pub returns : goal.returns
returns c = selection_rest c.args.kind c.if-kind-lt-KIND_FIELD.false refl
