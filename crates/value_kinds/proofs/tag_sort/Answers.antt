-- Tag by tag.
use mathlib.Core.Path.{refl}
use borrow.Author.Tests.{eq-eqb, ne_eqb}
use Rattle.value_kinds.proofs.tag_sort.Goals as goal

pub returns-then-tag-eq-RECORD_SCALAR : goal.returns-then-tag-eq-RECORD_SCALAR
returns-then-tag-eq-RECORD_SCALAR c = rw (eq-eqb c.args.tag 1 c.if-tag-eq-RECORD_SCALAR.true) refl

pub returns-then-tag-eq-RECORD_ENUM : goal.returns-then-tag-eq-RECORD_ENUM
returns-then-tag-eq-RECORD_ENUM c = rw (ne_eqb c.args.tag 1 c.if-tag-eq-RECORD_SCALAR.false, eq-eqb c.args.tag 5 c.if-tag-eq-RECORD_ENUM.true) refl

pub returns-then-tag-eq-RECORD_INPUT_OBJECT : goal.returns-then-tag-eq-RECORD_INPUT_OBJECT
returns-then-tag-eq-RECORD_INPUT_OBJECT c = rw (ne_eqb c.args.tag 1 c.if-tag-eq-RECORD_SCALAR.false, ne_eqb c.args.tag 5 c.if-tag-eq-RECORD_ENUM.false, eq-eqb c.args.tag 6 c.if-tag-eq-RECORD_INPUT_OBJECT.true) refl

pub returns : goal.returns
returns c = rw (ne_eqb c.args.tag 1 c.if-tag-eq-RECORD_SCALAR.false, ne_eqb c.args.tag 5 c.if-tag-eq-RECORD_ENUM.false, ne_eqb c.args.tag 6 c.if-tag-eq-RECORD_INPUT_OBJECT.false) refl
