-- By the member's tag.
use mathlib.Core.Bool.{false≢true}
use Rattle.table_rules_4_8_quick.proofs.SoundLaws.{base_field, base_input, base_other}
use Rattle.table_rules_4_8_quick.proofs.is_base_sound.Goals as goal

pub returns-then-base-eq-NO_TYPE : goal.returns-then-base-eq-NO_TYPE
returns-then-base-eq-NO_TYPE c = λ z. absurd (false≢true z)

pub returns-then-tag-eq-TAG_FIELD : goal.returns-then-tag-eq-TAG_FIELD
returns-then-tag-eq-TAG_FIELD c = let a = c.args in
    base_field a.t.now a.tag a.start a.end _ c.base_tag-base.ensures c.if-tag-eq-TAG_FIELD.true c.if-base-eq-NO_TYPE.false

pub returns-then-tag-eq-TAG_ARGUMENT : goal.returns-then-tag-eq-TAG_ARGUMENT
returns-then-tag-eq-TAG_ARGUMENT c = let a = c.args in
    λ z. base_input a.t.now a.tag a.start a.end _ c.base_tag.ensures c.if-tag-eq-TAG_FIELD.false c.if-tag-eq-TAG_ARGUMENT.true (c.is_input.ensures z)

pub returns : goal.returns
returns c = let a = c.args in
    λ z. base_other a.t.now a.tag a.start a.end c.if-tag-eq-TAG_FIELD.false c.if-tag-eq-TAG_ARGUMENT.false
