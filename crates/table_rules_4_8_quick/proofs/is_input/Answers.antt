-- No type, or by the two bounds of a tag.
use mathlib.Core.Bool.{false≢true}
use Rattle.table_rules_4_8_quick.proofs.SoundLaws.{input_tag}
use Rattle.table_rules_4_8_quick.proofs.is_input.Goals as goal

pub returns-then-tag-eq-NO_TYPE : goal.returns-then-tag-eq-NO_TYPE
returns-then-tag-eq-NO_TYPE c = λ z. absurd (false≢true z)

pub returns : goal.returns
returns c = input_tag _ _ c.if-tag-eq-NO_TYPE.false c.is_composite.ensures
