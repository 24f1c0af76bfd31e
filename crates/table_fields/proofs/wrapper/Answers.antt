-- One answer for each case of the byte.
use borrow.Author.Tests.{eq-eqb, ne_eqb}
use Rattle.table_fields.proofs.wrapper.Goals as goal

pub returns-then-wrappers-eq-WRAP_NON_NULL : goal.returns-then-wrappers-eq-WRAP_NON_NULL
returns-then-wrappers-eq-WRAP_NON_NULL c = rw (eq-eqb _ _ c.if-b-eq-BYTE_BANG.true, eq-eqb _ _ c.if-wrappers-eq-WRAP_NON_NULL.true)

pub returns-then-b-eq-BYTE_BANG : goal.returns-then-b-eq-BYTE_BANG
returns-then-b-eq-BYTE_BANG c = rw (eq-eqb _ _ c.if-b-eq-BYTE_BANG.true, ne_eqb _ _ c.if-wrappers-eq-WRAP_NON_NULL.false)

pub returns-then-lists-eq0 : goal.returns-then-lists-eq0
returns-then-lists-eq0 c = rw (ne_eqb _ _ c.if-b-eq-BYTE_BANG.false, eq-eqb _ _ c.if-b-eq-BYTE_BRACKET_R.true, eq-eqb _ _ c.if-lists-eq0.true)

pub returns-then-b-eq-BYTE_BRACKET_R : goal.returns-then-b-eq-BYTE_BRACKET_R
returns-then-b-eq-BYTE_BRACKET_R c = rw (ne_eqb _ _ c.if-b-eq-BYTE_BANG.false, eq-eqb _ _ c.if-b-eq-BYTE_BRACKET_R.true, ne_eqb _ _ c.if-lists-eq0.false)

pub returns : goal.returns
returns c = rw (ne_eqb _ _ c.if-b-eq-BYTE_BANG.false, ne_eqb _ _ c.if-b-eq-BYTE_BRACKET_R.false)
