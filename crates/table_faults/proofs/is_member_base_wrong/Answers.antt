-- By the member's tag.
use mathlib.Core.Path.{◌∙◌}
use Rattle.table_bases.proofs.TestLaws.{wrong_field, wrong_input, wrong_other}
use Rattle.table_faults.proofs.is_member_base_wrong.Goals as goal

pub returns-then-tag-eq-TAG_FIELD : goal.returns-then-tag-eq-TAG_FIELD
returns-then-tag-eq-TAG_FIELD c = wrong_field _ _ _ _ _ c.base_tag.ensures c.if-tag-eq-TAG_FIELD.true

pub returns-then-tag-eq-TAG_ARGUMENT : goal.returns-then-tag-eq-TAG_ARGUMENT
returns-then-tag-eq-TAG_ARGUMENT c = c.is_composite.ensures ∙ wrong_input _ _ _ _ _ c.base_tag-then-tag-eq-TAG_ARGUMENT.ensures c.if-tag-eq-TAG_FIELD.false c.if-tag-eq-TAG_ARGUMENT.true

pub returns : goal.returns
returns c = wrong_other _ _ _ _ c.if-tag-eq-TAG_FIELD.false c.if-tag-eq-TAG_ARGUMENT.false
