-- By the three cases.
use borrow.Author.Tests.{eq-eqb, ne_eqb}
use Rattle.table_members.proofs.is_member.Goals as goal

pub returns-then-tag-eq-TAG_FIELD : goal.returns-then-tag-eq-TAG_FIELD
returns-then-tag-eq-TAG_FIELD c = rw (eq-eqb _ _ c.if-tag-eq-TAG_FIELD.true)

pub returns-then-tag-eq-TAG_ARGUMENT : goal.returns-then-tag-eq-TAG_ARGUMENT
returns-then-tag-eq-TAG_ARGUMENT c = rw (ne_eqb _ _ c.if-tag-eq-TAG_FIELD.false, eq-eqb _ _ c.if-tag-eq-TAG_ARGUMENT.true)

pub returns : goal.returns
returns c = rw (ne_eqb _ _ c.if-tag-eq-TAG_FIELD.false, ne_eqb _ _ c.if-tag-eq-TAG_ARGUMENT.false)
