-- One of two kinds.
use mathlib.Core.Path.{refl}
use Rattle.query_rules_4_13.proofs.RuleLaws.{fragment_yes, fragment_rest}
use Rattle.query_rules_4_13.proofs.is_fragment.Goals as goal

pub returns-then-kind-eq-KIND_FRAGMENT : goal.returns-then-kind-eq-KIND_FRAGMENT
returns-then-kind-eq-KIND_FRAGMENT c = fragment_yes c.args.kind c.if-kind-eq-KIND_FRAGMENT.true

pub returns : goal.returns
returns c = fragment_rest c.args.kind c.if-kind-eq-KIND_FRAGMENT.false refl
