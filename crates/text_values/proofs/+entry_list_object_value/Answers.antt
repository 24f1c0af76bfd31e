-- value, list, object and entry call each other: the levels left fall where a mark opens, and within a level entry is above value, and value above list and object.
use mathlib.Core.Path.{refl, ◌∙◌}
use mathlib.Core.Logic.{inr}
use native.Mathlib.Omega.{arith}
use Rattle.paper.specs.Numbers.{kind_object_field}
use Rattle.text_cursor.proofs.Exits.{handed_back}
use Rattle.text_leaves.specs.Stacks.{value_stack, entry_stack}
use Rattle.text_values.proofs.VariableLaws.{no_variable}
use Rattle.text_values.proofs.NestLaws.{in_ready, nest_refused, nest_entered, nest_begins, nest_closes, nest_more, nest_less, nest_stops}
use Rattle.text_values.proofs.NestParts.{list_nest, object_nest}
use Rattle.text_values.proofs.EntryLaws.{entry_refused, entry_begun, entry_ready, entry_stops, entry_size, entry_went, field_is}
use Rattle.text_values.proofs.+entry_list_object_value.Goals as goal

pub entry-returns-in_err-first : goal.entry-returns-in_err-first
entry-returns-in_err-first t c = rw (handed_back _ _ _ c.from_residual.ensures c.in_err-first.was) (entry_refused _ _ _ _ c.args.left c.args.kind c.args.constant _ _ c.entry_name.ensures _ _ c.in_err-first.was)

pub entry-value-requires : goal.entry-value-requires
entry-value-requires t c = (omega (arith, c.decreases), entry_ready _ _ _ _ c.args.left c.args.kind c.args.constant _ _ c.entry_name.ensures _ c.in_ok-first.was c.requires.0.short)

pub entry-returns-in_err-d : goal.entry-returns-in_err-d
entry-returns-in_err-d t c = rw (handed_back _ _ _ c.from_residual-in_err-d.ensures c.in_err-d.was) (entry_stops _ _ _ _ c.args.left c.args.kind c.args.constant _ _ c.entry_name.ensures _ c.in_ok-first.was _ _ c.value.ensures _ _ c.in_err-d.was)

pub entry-put_end-requires : goal.entry-put_end-requires
entry-put_end-requires t c = ((entry_begun _ _ _ _ c.args.left c.args.kind c.args.constant _ _ c.entry_name.ensures _ c.in_ok-first.was).room, entry_size _ _ _ _ c.args.left c.args.kind c.args.constant _ _ c.entry_name.ensures _ c.in_ok-first.was _ _ c.value.ensures _ c.in_ok-d.was)

pub entry-shape_of-rows : goal.entry-shape_of-rows
entry-shape_of-rows t c = c.put_end.auto.rows ∙ c.value.auto.rows ∙ c.entry_name.auto.rows

pub entry-returns : goal.entry-returns
entry-returns t c = entry_went _ _ _ _ c.args.left c.args.kind c.args.constant _ _ c.entry_name.ensures _ c.in_ok-first.was _ _ c.value.ensures _ c.in_ok-d.was _ c.put_end.ensures

pub list-returns-in_err-d : goal.list-returns-in_err-d
list-returns-in_err-d t c = rw (handed_back _ _ _ c.from_residual.ensures c.in_err-d.was) (nest_refused (list_nest c.args.constant) _ _ _ _ c.requires.0 c.requires.1 c.args.left _ _ _ _ c.enter.ensures c.in_err-d.was)

pub list-loop-rows-init : goal.list-loop-rows-init
list-loop-rows-init t c = nest_begins (list_nest c.args.constant) _ _ _ _ c.requires.0 c.requires.1 c.args.left _ _ _ c.enter.ensures c.in_ok-d.was

pub list-close-requires : goal.list-close-requires
list-close-requires t c = (in_ready _ _ _ _ _ _ _ _ _ c.loop-rows.invariant c.requires.0.short c.requires.0.few, (nest_entered (list_nest c.args.constant) _ _ _ _ c.requires.0 c.requires.1 c.args.left _ _ _ c.enter.ensures c.in_ok-d.was).1)

pub list-returns-then-kind-eq-TOKEN_BRACKET_CLOSE : goal.list-returns-then-kind-eq-TOKEN_BRACKET_CLOSE
list-returns-then-kind-eq-TOKEN_BRACKET_CLOSE t c = nest_closes (list_nest c.args.constant) _ _ _ _ c.requires.0 c.requires.1 c.args.left _ _ _ c.enter.ensures c.in_ok-d.was _ _ c.loop-rows.invariant c.if-kind-eq-TOKEN_BRACKET_CLOSE.true _ _ c.close.ensures

pub list-overflow_sub-left : goal.list-overflow_sub-left
list-overflow_sub-left t c = omega (arith, (nest_entered (list_nest c.args.constant) _ _ _ _ c.requires.0 c.requires.1 c.args.left _ _ _ c.enter.ensures c.in_ok-d.was).0)

pub list-value-requires : goal.list-value-requires
list-value-requires t c = (omega (arith, c.decreases, (nest_entered (list_nest c.args.constant) _ _ _ _ c.requires.0 c.requires.1 c.args.left _ _ _ c.enter.ensures c.in_ok-d.was).0), in_ready _ _ _ _ _ _ _ _ _ c.loop-rows.invariant c.requires.0.short c.requires.0.few)

pub list-returns-in_err-d-2 : goal.list-returns-in_err-d-2
list-returns-in_err-d-2 t c = rw (handed_back _ _ _ c.from_residual-in_err-d-2.ensures c.in_err-d-2.was) (nest_stops (list_nest c.args.constant) _ _ _ _ c.requires.0 c.requires.1 c.args.left _ _ _ c.enter.ensures c.in_ok-d.was _ _ c.loop-rows.invariant c.if-kind-eq-TOKEN_BRACKET_CLOSE.false (value_stack c.args.constant) (λ σ o q h f. refl) _ _ _ _ c.value.ensures c.in_err-d-2.was)

pub list-loop-rows-smaller : goal.list-loop-rows-smaller
list-loop-rows-smaller t c = nest_less (list_nest c.args.constant) _ _ _ _ c.requires.0 c.requires.1 c.args.left _ _ _ c.enter.ensures c.in_ok-d.was _ _ c.loop-rows.invariant c.if-kind-eq-TOKEN_BRACKET_CLOSE.false (value_stack c.args.constant) (λ σ o q h f. refl) _ _ _ c.value.ensures c.in_ok-d-2.was

pub list-loop-rows-preserved : goal.list-loop-rows-preserved
list-loop-rows-preserved t c = nest_more (list_nest c.args.constant) _ _ _ _ c.requires.0 c.requires.1 c.args.left _ _ _ c.enter.ensures c.in_ok-d.was _ _ c.loop-rows.invariant c.if-kind-eq-TOKEN_BRACKET_CLOSE.false (value_stack c.args.constant) (λ σ o q h f. refl) _ _ _ c.value.ensures c.in_ok-d-2.was

pub object-returns-in_err-d : goal.object-returns-in_err-d
object-returns-in_err-d t c = rw (handed_back _ _ _ c.from_residual.ensures c.in_err-d.was) (nest_refused (object_nest c.args.constant) _ _ _ _ c.requires.0 c.requires.1 c.args.left _ _ _ _ c.enter.ensures c.in_err-d.was)

pub object-loop-rows-init : goal.object-loop-rows-init
object-loop-rows-init t c = nest_begins (object_nest c.args.constant) _ _ _ _ c.requires.0 c.requires.1 c.args.left _ _ _ c.enter.ensures c.in_ok-d.was

pub object-close-requires : goal.object-close-requires
object-close-requires t c = (in_ready _ _ _ _ _ _ _ _ _ c.loop-rows.invariant c.requires.0.short c.requires.0.few, (nest_entered (object_nest c.args.constant) _ _ _ _ c.requires.0 c.requires.1 c.args.left _ _ _ c.enter.ensures c.in_ok-d.was).1)

pub object-returns-then-kind-eq-TOKEN_BRACE_CLOSE : goal.object-returns-then-kind-eq-TOKEN_BRACE_CLOSE
object-returns-then-kind-eq-TOKEN_BRACE_CLOSE t c = nest_closes (object_nest c.args.constant) _ _ _ _ c.requires.0 c.requires.1 c.args.left _ _ _ c.enter.ensures c.in_ok-d.was _ _ c.loop-rows.invariant c.if-kind-eq-TOKEN_BRACE_CLOSE.true _ _ c.close.ensures

pub object-overflow_sub-left : goal.object-overflow_sub-left
object-overflow_sub-left t c = omega (arith, (nest_entered (object_nest c.args.constant) _ _ _ _ c.requires.0 c.requires.1 c.args.left _ _ _ c.enter.ensures c.in_ok-d.was).0)

pub object-entry-requires : goal.object-entry-requires
object-entry-requires t c = (omega (arith, c.decreases, (nest_entered (object_nest c.args.constant) _ _ _ _ c.requires.0 c.requires.1 c.args.left _ _ _ c.enter.ensures c.in_ok-d.was).0), (in_ready _ _ _ _ _ _ _ _ _ c.loop-rows.invariant c.requires.0.short c.requires.0.few, inr refl))

pub object-returns-in_err-d-2 : goal.object-returns-in_err-d-2
object-returns-in_err-d-2 t c = rw (handed_back _ _ _ c.from_residual-in_err-d-2.ensures c.in_err-d-2.was) (nest_stops (object_nest c.args.constant) _ _ _ _ c.requires.0 c.requires.1 c.args.left _ _ _ c.enter.ensures c.in_ok-d.was _ _ c.loop-rows.invariant c.if-kind-eq-TOKEN_BRACE_CLOSE.false (entry_stack kind_object_field c.args.constant) (field_is _ _ _ _ (in_ready _ _ _ _ _ _ _ _ _ c.loop-rows.invariant c.requires.0.short c.requires.0.few) _ c.args.constant) _ _ _ _ c.entry.ensures c.in_err-d-2.was)

pub object-loop-rows-smaller : goal.object-loop-rows-smaller
object-loop-rows-smaller t c = nest_less (object_nest c.args.constant) _ _ _ _ c.requires.0 c.requires.1 c.args.left _ _ _ c.enter.ensures c.in_ok-d.was _ _ c.loop-rows.invariant c.if-kind-eq-TOKEN_BRACE_CLOSE.false (entry_stack kind_object_field c.args.constant) (field_is _ _ _ _ (in_ready _ _ _ _ _ _ _ _ _ c.loop-rows.invariant c.requires.0.short c.requires.0.few) _ c.args.constant) _ _ _ c.entry.ensures c.in_ok-d-2.was

pub object-loop-rows-preserved : goal.object-loop-rows-preserved
object-loop-rows-preserved t c = nest_more (object_nest c.args.constant) _ _ _ _ c.requires.0 c.requires.1 c.args.left _ _ _ c.enter.ensures c.in_ok-d.was _ _ c.loop-rows.invariant c.if-kind-eq-TOKEN_BRACE_CLOSE.false (entry_stack kind_object_field c.args.constant) (field_is _ _ _ _ (in_ready _ _ _ _ _ _ _ _ _ c.loop-rows.invariant c.requires.0.short c.requires.0.few) _ c.args.constant) _ _ _ c.entry.ensures c.in_ok-d-2.was

pub value-list-requires : goal.value-list-requires
value-list-requires t c = (omega (arith, c.decreases), (c.requires, c.if-kind-eq-TOKEN_BRACKET_OPEN.true))

pub value-returns-then-kind-eq-TOKEN_BRACKET_OPEN : goal.value-returns-then-kind-eq-TOKEN_BRACKET_OPEN
value-returns-then-kind-eq-TOKEN_BRACKET_OPEN t c = c.list.ensures

pub value-object-requires : goal.value-object-requires
value-object-requires t c = (omega (arith, c.decreases), (c.requires, c.if-kind-eq-TOKEN_BRACE_OPEN.true))

pub value-returns-then-kind-eq-TOKEN_BRACE_OPEN : goal.value-returns-then-kind-eq-TOKEN_BRACE_OPEN
value-returns-then-kind-eq-TOKEN_BRACE_OPEN t c = c.object.ensures

pub value-returns-then-constant : goal.value-returns-then-constant
value-returns-then-constant t c = rw c.no_going.ensures (no_variable _ _ _ _ _ _ c.requires c.if-kind-eq-TOKEN_DOLLAR.true c.if-constant.true)

pub value-variable-requires : goal.value-variable-requires
value-variable-requires t c = (c.requires, c.if-kind-eq-TOKEN_DOLLAR.true)

pub value-returns-then-kind-eq-TOKEN_DOLLAR : goal.value-returns-then-kind-eq-TOKEN_DOLLAR
value-returns-then-kind-eq-TOKEN_DOLLAR t c = rw c.if-constant.false (c.variable.ensures c.args.left)

pub value-scalar-requires : goal.value-scalar-requires
value-scalar-requires t c = (c.requires, c.if-kind-eq-TOKEN_DOLLAR.false, c.if-kind-eq-TOKEN_BRACKET_OPEN.false, c.if-kind-eq-TOKEN_BRACE_OPEN.false)

pub value-returns : goal.value-returns
value-returns t c = c.scalar.ensures c.args.left c.args.constant
