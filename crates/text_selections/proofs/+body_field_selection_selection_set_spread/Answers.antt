-- The cycle of calls of selection sets is the machine at SelectionSet: four times the levels left, and a constant for each function, fall at
-- each call; at each turn of the loop a selection is to be read.
use mathlib.Core.Path.{sym, ◌∙◌}
use Prim.Native.Nat.{◌-◌}
use native.Mathlib.Omega.{arith}
use Rattle.text_cursor.proofs.Exits.{handed_on}
use Rattle.text_arguments.specs.Passed.{Passed, shut}
use Rattle.text_arguments.proofs.Onward.{ready_past, went_past, joined, unmoved}
use Rattle.text_selections.specs.Selections.{selection_set_stack}
use Rattle.text_selections.proofs.SetLaws.{one_more, selection_lacks, set_lacks, set_deep, set_bad, turn_first, turn_ready, turn_stops, turn_read, turn_more, turn_ends, body_stops, body_read, body_ends}
use Rattle.text_selections.proofs.FieldLaws.{field_stops, field_read, field_ready, field_set, field_ends, field_selected}
use Rattle.text_selections.proofs.SpreadLaws.{spread_full, spread_room, spread_bad, spread_lies, spread_rows, spread_ready, spread_named, spread_stops, spread_set_ready, spread_set}
use Rattle.text_selections.proofs.+body_field_selection_selection_set_spread.Goals as goal

pub body-selection_set-requires : goal.body-selection_set-requires
body-selection_set-requires t c = (omega (arith, c.decreases), c.requires.0)

pub body-shape_of-rows-in_err-d : goal.body-shape_of-rows-in_err-d
body-shape_of-rows-in_err-d t c = c.selection_set.auto.rows

pub body-returns-in_err-d : goal.body-returns-in_err-d
body-returns-in_err-d t c = rw (handed_on _ _ c.from_residual.ensures) (body_stops _ _ _ _ _ _ _ c.selection_set.ensures _ c.in_err-d.was)

pub body-put_end-requires : goal.body-put_end-requires
body-put_end-requires t c = (c.requires.1, (body_read _ _ _ _ _ _ _ c.selection_set.ensures _ c.in_ok-d.was).size)

pub body-shape_of-rows : goal.body-shape_of-rows
body-shape_of-rows t c = c.put_end.auto.rows ∙ c.selection_set.auto.rows

pub body-returns : goal.body-returns
body-returns t c = body_ends _ _ _ _ _ _ _ c.selection_set.ensures _ c.in_ok-d.was _ c.put_end.ensures

pub field-field_head-requires : goal.field-field_head-requires
field-field_head-requires t c = c.requires

pub field-shape_of-rows-in_err-head : goal.field-shape_of-rows-in_err-head
field-shape_of-rows-in_err-head t c = c.field_head.auto.rows

pub field-returns-in_err-head : goal.field-returns-in_err-head
field-returns-in_err-head t c = rw (handed_on _ _ c.from_residual.ensures) (field_stops _ _ _ _ _ _ _ c.field_head.ensures _ c.in_err-head.was)

pub field-body-requires : goal.field-body-requires
field-body-requires t c = (omega (arith, c.decreases), (field_ready _ _ _ _ _ _ _ c.field_head.ensures _ c.in_ok-head.was c.requires.0.short, (field_read _ _ _ _ _ _ _ c.field_head.ensures _ c.in_ok-head.was).0))

pub field-shape_of-rows-then-head-eq-TOKEN_BRACE_OPEN : goal.field-shape_of-rows-then-head-eq-TOKEN_BRACE_OPEN
field-shape_of-rows-then-head-eq-TOKEN_BRACE_OPEN t c = c.body.auto.rows ∙ c.field_head.auto.rows

pub field-returns-then-head-eq-TOKEN_BRACE_OPEN : goal.field-returns-then-head-eq-TOKEN_BRACE_OPEN
field-returns-then-head-eq-TOKEN_BRACE_OPEN t c = field_set _ _ _ _ _ _ _ c.field_head.ensures _ c.in_ok-head.was c.if-head-eq-TOKEN_BRACE_OPEN.true _ c.body.result c.body.ensures

pub field-put_end-requires : goal.field-put_end-requires
field-put_end-requires t c = ((field_read _ _ _ _ _ _ _ c.field_head.ensures _ c.in_ok-head.was).0, (field_read _ _ _ _ _ _ _ c.field_head.ensures _ c.in_ok-head.was).1.size)

pub field-shape_of-rows : goal.field-shape_of-rows
field-shape_of-rows t c = c.put_end.auto.rows ∙ c.field_head.auto.rows

pub field-returns : goal.field-returns
field-returns t c = field_ends _ _ _ _ _ _ _ c.field_head.ensures _ c.in_ok-head.was c.if-head-eq-TOKEN_BRACE_OPEN.false _ c.put_end.ensures

pub selection-field-requires : goal.selection-field-requires
selection-field-requires t c = (omega (arith, c.decreases), (c.requires, c.if-c-eq-TOKEN_NAME.true))

pub selection-shape_of-rows-then-c-eq-TOKEN_NAME : goal.selection-shape_of-rows-then-c-eq-TOKEN_NAME
selection-shape_of-rows-then-c-eq-TOKEN_NAME t c = c.field.auto.rows

pub selection-returns-then-c-eq-TOKEN_NAME : goal.selection-returns-then-c-eq-TOKEN_NAME
selection-returns-then-c-eq-TOKEN_NAME t c = field_selected _ _ _ _ _ c.args.left c.requires c.if-c-eq-TOKEN_NAME.true c.field.result c.field.ensures

pub selection-spread-requires : goal.selection-spread-requires
selection-spread-requires t c = (omega (arith, c.decreases), (c.requires, c.if-c-eq-TOKEN_SPREAD.true))

pub selection-shape_of-rows-then-c-eq-TOKEN_SPREAD : goal.selection-shape_of-rows-then-c-eq-TOKEN_SPREAD
selection-shape_of-rows-then-c-eq-TOKEN_SPREAD t c = c.spread.auto.rows

pub selection-returns-then-c-eq-TOKEN_SPREAD : goal.selection-returns-then-c-eq-TOKEN_SPREAD
selection-returns-then-c-eq-TOKEN_SPREAD t c = c.spread.ensures

pub selection-returns : goal.selection-returns
selection-returns t c = rw c.no_going.ensures (selection_lacks _ _ _ _ _ c.requires c.if-c-eq-TOKEN_NAME.false c.if-c-eq-TOKEN_SPREAD.false)

pub selection_set-returns-then-c-ne-TOKEN_BRACE_OPEN : goal.selection_set-returns-then-c-ne-TOKEN_BRACE_OPEN
selection_set-returns-then-c-ne-TOKEN_BRACE_OPEN t c = rw c.no_going.ensures (set_lacks _ _ _ _ _ c.requires c.if-c-ne-TOKEN_BRACE_OPEN.true)

pub selection_set-returns-then-left-eq0 : goal.selection_set-returns-then-left-eq0
selection_set-returns-then-left-eq0 t c = set_deep _ _ _ _ _ c.requires c.if-c-ne-TOKEN_BRACE_OPEN.false c.if-left-eq0.true

pub selection_set-past-requires : goal.selection_set-past-requires
selection_set-past-requires t c = ready_past _ _ _ _ c.requires

pub selection_set-returns-in_err-d : goal.selection_set-returns-in_err-d
selection_set-returns-in_err-d t c = rw (handed_on _ _ c.from_residual.ensures) (set_bad _ _ _ _ _ c.requires c.if-c-ne-TOKEN_BRACE_OPEN.false c.if-left-eq0.false _ c.past.ensures _ c.in_err-d.was)

pub selection_set-loop-next-init : goal.selection_set-loop-next-init
selection_set-loop-next-init t c =
    let begun : Passed 1 c.args.s.now c.args.rows.now c.args.rows.now c.args.c c.in_ok-d.d c.args.parent c.args.left (c.args.left - 1) shut shut selection_set_stack one_more = turn_first _ _ _ _ _ c.requires c.if-c-ne-TOKEN_BRACE_OPEN.false c.if-left-eq0.false _ _ c.past.ensures c.in_ok-d.was in
    let b = begun in unmoved _ _ _ _ _ _ b.size b.within b.few b.looks

pub selection_set-selection-requires : goal.selection_set-selection-requires
selection_set-selection-requires t c = (omega (arith, c.decreases, c.if-left-eq0.false), turn_ready _ _ _ _ _ _ _ _ _ _ c.loop-next.invariant c.requires.short c.requires.below)

pub selection_set-shape_of-rows-in_err-next : goal.selection_set-shape_of-rows-in_err-next
selection_set-shape_of-rows-in_err-next t c = c.selection.auto.rows ∙ c.loop-next.invariant.size ∙ sym c.requires.size

pub selection_set-returns-in_err-next : goal.selection_set-returns-in_err-next
selection_set-returns-in_err-next t c =
    let begun : Passed 1 c.args.s.now c.args.rows.now c.args.rows.now c.args.c c.in_ok-d.d c.args.parent c.args.left (c.args.left - 1) shut shut selection_set_stack one_more = turn_first _ _ _ _ _ c.requires c.if-c-ne-TOKEN_BRACE_OPEN.false c.if-left-eq0.false _ _ c.past.ensures c.in_ok-d.was in
    let joint : Passed 1 c.args.s.now c.args.rows.now c.loop-next.rows c.args.c c.loop-next.d c.args.parent c.args.left (c.args.left - 1) shut shut selection_set_stack one_more = joined _ _ _ _ _ _ _ _ _ _ _ _ _ _ _ begun c.loop-next.invariant in
    rw (handed_on _ _ c.from_residual-in_err-next.ensures) (turn_stops _ _ _ _ _ _ _ _ _ _ joint _ _ c.selection.ensures _ c.in_err-next.was)

pub selection_set-past-requires-then-next-eq-TOKEN_BRACE_CLOSE : goal.selection_set-past-requires-then-next-eq-TOKEN_BRACE_CLOSE
selection_set-past-requires-then-next-eq-TOKEN_BRACE_CLOSE t c = (c.requires.short, went_past _ _ _ _ _ _ _ _ _ (turn_read _ _ _ _ _ _ _ _ _ _ c.loop-next.invariant _ _ c.selection.ensures _ c.in_ok-next.was))

pub selection_set-shape_of-rows-then-next-eq-TOKEN_BRACE_CLOSE : goal.selection_set-shape_of-rows-then-next-eq-TOKEN_BRACE_CLOSE
selection_set-shape_of-rows-then-next-eq-TOKEN_BRACE_CLOSE t c = let v = turn_read _ _ _ _ _ _ _ _ _ _ c.loop-next.invariant _ _ c.selection.ensures _ c.in_ok-next.was in v.size ∙ sym c.requires.size

pub selection_set-returns-then-next-eq-TOKEN_BRACE_CLOSE : goal.selection_set-returns-then-next-eq-TOKEN_BRACE_CLOSE
selection_set-returns-then-next-eq-TOKEN_BRACE_CLOSE t c =
    let begun : Passed 1 c.args.s.now c.args.rows.now c.args.rows.now c.args.c c.in_ok-d.d c.args.parent c.args.left (c.args.left - 1) shut shut selection_set_stack one_more = turn_first _ _ _ _ _ c.requires c.if-c-ne-TOKEN_BRACE_OPEN.false c.if-left-eq0.false _ _ c.past.ensures c.in_ok-d.was in
    let joint : Passed 1 c.args.s.now c.args.rows.now c.loop-next.rows c.args.c c.loop-next.d c.args.parent c.args.left (c.args.left - 1) shut shut selection_set_stack one_more = joined _ _ _ _ _ _ _ _ _ _ _ _ _ _ _ begun c.loop-next.invariant in
    turn_ends _ _ _ _ _ _ _ _ _ joint _ c.selection.ensures c.in_ok-next.was c.if-left-eq0.false c.if-next-eq-TOKEN_BRACE_CLOSE.true _ c.past-then-next-eq-TOKEN_BRACE_CLOSE.ensures

pub selection_set-loop-next-smaller : goal.selection_set-loop-next-smaller
selection_set-loop-next-smaller t c = let v = turn_read _ _ _ _ _ _ _ _ _ _ c.loop-next.invariant _ _ c.selection.ensures _ c.in_ok-next.was in omega (arith, v.on, v.within)

pub selection_set-loop-next-preserved : goal.selection_set-loop-next-preserved
selection_set-loop-next-preserved t c = turn_more _ _ _ _ _ _ _ _ _ _ c.loop-next.invariant _ _ c.selection.ensures _ c.in_ok-next.was c.if-next-eq-TOKEN_BRACE_CLOSE.false

pub spread-returns-then-n-eq-MOST_ROWS : goal.spread-returns-then-n-eq-MOST_ROWS
spread-returns-then-n-eq-MOST_ROWS t c = spread_full _ _ _ _ _ c.requires.0 c.requires.1 c.if-n-eq-MOST_ROWS.true

pub spread-past-requires : goal.spread-past-requires
spread-past-requires t c = ready_past _ _ _ _ c.requires.0

pub spread-returns-in_err-d : goal.spread-returns-in_err-d
spread-returns-in_err-d t c = rw (handed_on _ _ c.from_residual.ensures) (spread_bad _ _ _ _ _ c.requires.0 c.requires.1 c.if-n-eq-MOST_ROWS.false _ c.past.ensures _ c.in_err-d.was)

pub spread-names_fragment-requires : goal.spread-names_fragment-requires
spread-names_fragment-requires t c = spread_lies _ _ _ _ 0 c.requires.0 c.requires.1 c.if-n-eq-MOST_ROWS.false _ c.past.ensures _ c.in_ok-d.was

pub spread-named_spread-requires : goal.spread-named_spread-requires
spread-named_spread-requires t c = (spread_ready _ _ _ _ 0 c.requires.0 c.requires.1 c.if-n-eq-MOST_ROWS.false _ c.past.ensures _ c.in_ok-d.was, sym c.names_fragment.ensures ∙ c.if-names_fragment.true, spread_rows _ _ _ _ 0 c.requires.0 c.requires.1 c.if-n-eq-MOST_ROWS.false _ c.past.ensures _ c.in_ok-d.was)

pub spread-shape_of-rows-then-names_fragment : goal.spread-shape_of-rows-then-names_fragment
spread-shape_of-rows-then-names_fragment t c = c.named_spread.auto.rows

pub spread-returns-then-names_fragment : goal.spread-returns-then-names_fragment
spread-returns-then-names_fragment t c = spread_named _ _ _ _ c.args.left c.requires.0 c.requires.1 c.if-n-eq-MOST_ROWS.false _ c.past.ensures _ c.in_ok-d.was _ c.named_spread.result c.named_spread.ensures

pub spread-inline_head-requires : goal.spread-inline_head-requires
spread-inline_head-requires t c = (spread_ready _ _ _ _ 0 c.requires.0 c.requires.1 c.if-n-eq-MOST_ROWS.false _ c.past.ensures _ c.in_ok-d.was, sym c.names_fragment.ensures ∙ c.if-names_fragment.false, spread_rows _ _ _ _ 0 c.requires.0 c.requires.1 c.if-n-eq-MOST_ROWS.false _ c.past.ensures _ c.in_ok-d.was)

pub spread-shape_of-rows-in_err-e : goal.spread-shape_of-rows-in_err-e
spread-shape_of-rows-in_err-e t c = c.inline_head.auto.rows

pub spread-returns-in_err-e : goal.spread-returns-in_err-e
spread-returns-in_err-e t c = rw (handed_on _ _ c.from_residual-in_err-e.ensures) (spread_stops _ _ _ _ _ c.requires.0 c.requires.1 c.if-n-eq-MOST_ROWS.false _ c.past.ensures _ c.in_ok-d.was _ _ c.inline_head.ensures _ c.in_err-e.was)

pub spread-body-requires : goal.spread-body-requires
spread-body-requires t c = (omega (arith, c.decreases), (spread_set_ready _ _ _ _ _ c.requires.0 c.requires.1 c.if-n-eq-MOST_ROWS.false _ c.past.ensures _ c.in_ok-d.was _ _ c.inline_head.ensures _ c.in_ok-e.was, spread_room _ _ _ _ 0 c.requires.0 c.requires.1 c.if-n-eq-MOST_ROWS.false))

pub spread-shape_of-rows : goal.spread-shape_of-rows
spread-shape_of-rows t c = c.body.auto.rows ∙ c.inline_head.auto.rows

pub spread-returns : goal.spread-returns
spread-returns t c = spread_set _ _ _ _ _ c.requires.0 c.requires.1 c.if-n-eq-MOST_ROWS.false _ c.past.ensures _ c.in_ok-d.was _ _ c.inline_head.ensures _ c.in_ok-e.was _ c.body.result c.body.ensures
