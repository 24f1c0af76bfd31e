-- Marked, or by the lowest two bits of its wrappers.
use mathlib.Core.Path.{◌∙◌}
use mathlib.Core.Bool.{true≢false}
use mathlib.Core.Logic.{inl, inr}
use Rattle.table_members.proofs.TypeLaws.{typed_non_null}
use Rattle.table_rules_11_15_quick.proofs.is_loose.Goals as goal

pub returns-then-k-gt-MOST_MARKED : goal.returns-then-k-gt-MOST_MARKED
returns-then-k-gt-MOST_MARKED c = λ z. absurd (true≢false z)

pub returns-then-marks-k-eq1 : goal.returns-then-marks-k-eq1
returns-then-marks-k-eq1 c = λ z. inl c.if-marks-k-eq1.true

pub returns : goal.returns
returns c = λ z. inr (typed_non_null c.type_in-x.ensures ∙ z)
