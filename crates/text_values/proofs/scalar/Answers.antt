-- scalar: each kind of token by its law.
use mathlib.Core.List.{[]}
use Rattle.text_values.proofs.LeafLaws.{int_said, float_said, string_said, no_value}
use Rattle.text_values.proofs.scalar.Goals as goal

pub returns-then-kind-eq-TOKEN_INT : goal.returns-then-kind-eq-TOKEN_INT
returns-then-kind-eq-TOKEN_INT c = int_said _ _ _ _ _ c.requires.0 _ c.if-kind-eq-TOKEN_INT.true c.leaf.ensures

pub returns-then-kind-eq-TOKEN_FLOAT : goal.returns-then-kind-eq-TOKEN_FLOAT
returns-then-kind-eq-TOKEN_FLOAT c = float_said _ _ _ _ _ c.requires.0 _ c.if-kind-eq-TOKEN_FLOAT.true c.leaf-then-kind-eq-TOKEN_FLOAT.ensures

pub returns-then-kind-eq-TOKEN_STRING : goal.returns-then-kind-eq-TOKEN_STRING
returns-then-kind-eq-TOKEN_STRING c = string_said _ _ _ _ _ c.requires.0 _ c.if-kind-eq-TOKEN_STRING.true c.leaf-then-kind-eq-TOKEN_STRING.ensures

pub returns : goal.returns
returns c = rw c.no_going.ensures (no_value _ _ [] _ _ c.requires.0 c.no_going.result c.if-kind-eq-TOKEN_NAME.false c.if-kind-eq-TOKEN_INT.false c.if-kind-eq-TOKEN_FLOAT.false c.if-kind-eq-TOKEN_STRING.false c.requires.1 c.requires.2 c.requires.3)
