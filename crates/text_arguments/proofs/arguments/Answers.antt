-- `text_arguments` is the machine at Arguments: at each turn of its loop an argument is to be read.
use Prim.Native.Nat.{◌-◌}
use mathlib.Core.Path.{refl, sym, ◌∙◌}
use mathlib.Core.Logic.{inl}
use native.Mathlib.Omega.{arith}
use Rattle.text_cursor.proofs.Exits.{handed_on}
use Rattle.text_arguments.specs.Arguments.{arguments_stack}
use Rattle.text_arguments.specs.Passed.{Passed, shut}
use Rattle.text_arguments.proofs.Onward.{ready_past, went_past, joined, unmoved}
use Rattle.text_arguments.proofs.ArgumentsLaws.{one_more, deep_said, bad_said, turn_first, turn_ready, turn_stops, turn_read, turn_more, turn_ends}
use Rattle.text_arguments.proofs.arguments.Goals as goal

pub returns-then-left-eq0 : goal.returns-then-left-eq0
returns-then-left-eq0 c = deep_said _ _ _ _ _ c.requires.0 c.requires.1 c.if-left-eq0.true

pub past-requires : goal.past-requires
past-requires c = ready_past _ _ _ _ c.requires.0

pub returns-in_err-d : goal.returns-in_err-d
returns-in_err-d c = rw (handed_on _ _ c.from_residual.ensures) (bad_said _ _ _ _ _ c.requires.0 c.requires.1 c.if-left-eq0.false _ c.past.ensures _ c.in_err-d.was)

pub loop-next-init : goal.loop-next-init
loop-next-init c =
    let begun : Passed 0 c.args.s.now c.args.rows.now c.args.rows.now c.args.c c.in_ok-d.d c.args.parent c.args.left (c.args.left - 1) shut shut arguments_stack one_more = turn_first _ _ _ _ _ c.requires.0 c.requires.1 c.if-left-eq0.false _ _ c.past.ensures c.in_ok-d.was in
    let b = begun in unmoved _ _ _ _ _ _ b.size b.within b.few b.looks

pub entry-requires : goal.entry-requires
entry-requires c = (turn_ready _ _ _ _ _ _ _ _ _ c.loop-next.invariant c.requires.0.short c.requires.0.below, inl refl)

pub shape_of-rows-in_err-next : goal.shape_of-rows-in_err-next
shape_of-rows-in_err-next c = c.entry.auto.rows ∙ c.loop-next.invariant.size ∙ sym c.requires.0.size

pub returns-in_err-next : goal.returns-in_err-next
returns-in_err-next c =
    let begun : Passed 0 c.args.s.now c.args.rows.now c.args.rows.now c.args.c c.in_ok-d.d c.args.parent c.args.left (c.args.left - 1) shut shut arguments_stack one_more = turn_first _ _ _ _ _ c.requires.0 c.requires.1 c.if-left-eq0.false _ _ c.past.ensures c.in_ok-d.was in
    let joint : Passed 0 c.args.s.now c.args.rows.now c.loop-next.rows c.args.c c.loop-next.d c.args.parent c.args.left (c.args.left - 1) shut shut arguments_stack one_more = joined _ _ _ _ _ _ _ _ _ _ _ _ _ _ _ begun c.loop-next.invariant in
    rw (handed_on _ _ c.from_residual-in_err-next.ensures) (turn_stops _ _ _ _ _ _ _ _ _ joint _ _ c.entry.ensures _ c.in_err-next.was)

pub past-requires-then-next-eq-TOKEN_PAREN_CLOSE : goal.past-requires-then-next-eq-TOKEN_PAREN_CLOSE
past-requires-then-next-eq-TOKEN_PAREN_CLOSE c = (c.requires.0.short, went_past _ _ _ _ _ _ _ _ _ (turn_read _ _ _ _ _ _ _ _ _ c.loop-next.invariant _ _ c.entry.ensures _ c.in_ok-next.was))

pub shape_of-rows-then-next-eq-TOKEN_PAREN_CLOSE : goal.shape_of-rows-then-next-eq-TOKEN_PAREN_CLOSE
shape_of-rows-then-next-eq-TOKEN_PAREN_CLOSE c = let v = turn_read _ _ _ _ _ _ _ _ _ c.loop-next.invariant _ _ c.entry.ensures _ c.in_ok-next.was in v.size ∙ sym c.requires.0.size

pub returns-then-next-eq-TOKEN_PAREN_CLOSE : goal.returns-then-next-eq-TOKEN_PAREN_CLOSE
returns-then-next-eq-TOKEN_PAREN_CLOSE c =
    let begun : Passed 0 c.args.s.now c.args.rows.now c.args.rows.now c.args.c c.in_ok-d.d c.args.parent c.args.left (c.args.left - 1) shut shut arguments_stack one_more = turn_first _ _ _ _ _ c.requires.0 c.requires.1 c.if-left-eq0.false _ _ c.past.ensures c.in_ok-d.was in
    let joint : Passed 0 c.args.s.now c.args.rows.now c.loop-next.rows c.args.c c.loop-next.d c.args.parent c.args.left (c.args.left - 1) shut shut arguments_stack one_more = joined _ _ _ _ _ _ _ _ _ _ _ _ _ _ _ begun c.loop-next.invariant in
    turn_ends _ _ _ _ _ _ _ _ _ joint _ c.entry.ensures c.in_ok-next.was c.if-left-eq0.false c.if-next-eq-TOKEN_PAREN_CLOSE.true _ c.past-then-next-eq-TOKEN_PAREN_CLOSE.ensures

pub loop-next-smaller : goal.loop-next-smaller
loop-next-smaller c = let v = turn_read _ _ _ _ _ _ _ _ _ c.loop-next.invariant _ _ c.entry.ensures _ c.in_ok-next.was in omega (arith, v.on, v.within)

pub loop-next-preserved : goal.loop-next-preserved
loop-next-preserved c = turn_more _ _ _ _ _ _ _ _ _ c.loop-next.invariant _ _ c.entry.ensures _ c.in_ok-next.was c.if-next-eq-TOKEN_PAREN_CLOSE.false
