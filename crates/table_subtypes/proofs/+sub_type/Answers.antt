-- Each way out is a law of the test; the wrappers of the first reference fall.
use mathlib.Core.Path.{sym, ◌∙◌}
use Rattle.table_subtypes.proofs.SubLaws.{sub_equal, sub_named, sub_named_no, sub_non_null, sub_list, sub_none}
use Rattle.table_subtypes.proofs.+sub_type.Goals as goal

pub returns-then-equal_refs : goal.returns-then-equal_refs
returns-then-equal_refs t c = sub_equal c.args.alike c.args.can c.args.o c.args.i (sym c.equal_refs.ensures ∙ c.if-equal_refs.true)

pub returns-then-i-eq0 : goal.returns-then-i-eq0
returns-then-i-eq0 t c = sub_named c.args.alike c.args.can c.args.o c.args.i (sym c.equal_refs.ensures ∙ c.if-equal_refs.false) c.if-o-eq0.true c.if-i-eq0.true

pub returns-then-o-eq0 : goal.returns-then-o-eq0
returns-then-o-eq0 t c = sub_named_no c.args.alike c.args.can c.args.o c.args.i c.if-o-eq0.true c.if-i-eq0.false

pub returns-then-o-eq-WRAP_NON_NULL : goal.returns-then-o-eq-WRAP_NON_NULL
returns-then-o-eq-WRAP_NON_NULL t c = sub_non_null c.args.alike c.args.can c.args.o c.args.i c.sub_type.result (sym c.equal_refs.ensures ∙ c.if-equal_refs.false) c.if-o-eq-WRAP_NON_NULL.true c.sub_type.ensures

pub returns-then-i-eq-WRAP_LIST : goal.returns-then-i-eq-WRAP_LIST
returns-then-i-eq-WRAP_LIST t c = sub_list c.args.alike c.args.can c.args.o c.args.i c.sub_type-then-i-eq-WRAP_LIST.result c.if-o-eq0.false c.if-o-eq-WRAP_NON_NULL.false c.if-i-eq-WRAP_LIST.true c.sub_type-then-i-eq-WRAP_LIST.ensures

pub returns : goal.returns
returns t c = sub_none c.args.alike c.args.can c.args.o c.args.i c.if-o-eq0.false c.if-o-eq-WRAP_NON_NULL.false c.if-i-eq-WRAP_LIST.false
