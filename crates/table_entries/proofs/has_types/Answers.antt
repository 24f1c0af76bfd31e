-- Between the tags.
use Rattle.table_entries.proofs.Spans.{types_below, types_composite, types_between, types_inputs}
use Rattle.table_entries.proofs.has_types.Goals as goal

pub returns-then-kind-lt-RECORD_OBJECT : goal.returns-then-kind-lt-RECORD_OBJECT
returns-then-kind-lt-RECORD_OBJECT c = types_below c.args.kind c.if-kind-lt-RECORD_OBJECT.true

pub returns-then-kind-le-RECORD_INTERFACE : goal.returns-then-kind-le-RECORD_INTERFACE
returns-then-kind-le-RECORD_INTERFACE c = types_composite c.args.kind c.if-kind-lt-RECORD_OBJECT.false c.if-kind-le-RECORD_INTERFACE.true

pub returns-then-kind-lt-RECORD_INPUT_OBJECT : goal.returns-then-kind-lt-RECORD_INPUT_OBJECT
returns-then-kind-lt-RECORD_INPUT_OBJECT c = types_between c.args.kind c.if-kind-le-RECORD_INTERFACE.false c.if-kind-lt-RECORD_INPUT_OBJECT.true

pub returns : goal.returns
returns c = types_inputs c.args.kind c.if-kind-lt-RECORD_INPUT_OBJECT.false
