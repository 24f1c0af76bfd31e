-- Kind by kind.
use mathlib.Core.Path.{refl}
use Rattle.query_inside.proofs.KindLaws.{operation_encloses, fragment_encloses, field_encloses, rest_encloses}
use Rattle.query_inside.proofs.encloses.Goals as goal

pub returns-then-kind-eq-KIND_OPERATION : goal.returns-then-kind-eq-KIND_OPERATION
returns-then-kind-eq-KIND_OPERATION c = operation_encloses c.args.kind c.if-kind-eq-KIND_OPERATION.true

pub returns-then-kind-eq-KIND_FRAGMENT : goal.returns-then-kind-eq-KIND_FRAGMENT
returns-then-kind-eq-KIND_FRAGMENT c = fragment_encloses c.args.kind c.if-kind-eq-KIND_FRAGMENT.true

pub returns-then-kind-eq-KIND_FIELD : goal.returns-then-kind-eq-KIND_FIELD
returns-then-kind-eq-KIND_FIELD c = field_encloses c.args.kind c.if-kind-eq-KIND_FIELD.true

pub returns : goal.returns
returns c = rest_encloses c.args.kind c.if-kind-eq-KIND_OPERATION.false c.if-kind-eq-KIND_FRAGMENT.false c.if-kind-eq-KIND_FIELD.false refl
