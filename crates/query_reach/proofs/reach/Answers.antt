-- Definition by definition, as long as one waits: each row is put on the stack once at most.
use mathlib.Core.Path.{refl, sym, ◌∙◌}
use Prim.Native.Nat.{◌-◌}
use native.Mathlib.Omega.{arith}
use Rattle.query_rows.proofs.Rooms.{room_rows}
use Rattle.query_reach.proofs.SearchLaws.{search_start, search_most, search_pop, search_end}
use Rattle.query_reach.proofs.reach.Goals as goal

pub pass-top-requires : goal.pass-top-requires
pass-top-requires c = (c.requires.0, search_start _ _ _ _ c.requires.1 c.requires.2 (c.requires.3 ∙ sym (room_rows _ _)))

pub loop-top-init : goal.loop-top-init
loop-top-init c = record { last = c.args.a; search = c.pass-top.ensures.search }

pub offset_bounds-stack-top : goal.offset_bounds-stack-top
offset_bounds-stack-top c = omega (arith, search_most _ _ _ _ _ _ _ c.loop-top.invariant.search)

pub bounds-stack-top : goal.bounds-stack-top
bounds-stack-top c = omega (arith, c.loop-top-test.true, c.loop-top.invariant.search.room, c.loop-top.invariant.search.stacked)

pub overflow_cast-g : goal.overflow_cast-g
overflow_cast-g c = omega (arith, c.slice_known-in-loop-top-1.given (c.loop-top.top - 1))

pub pass-top-requires-in-loop-top : goal.pass-top-requires-in-loop-top
pass-top-requires-in-loop-top c = (c.requires.0, search_pop _ _ _ _ _ _ _ c.loop-top.invariant.search c.loop-top-test.true refl)

pub loop-top-smaller : goal.loop-top-smaller
loop-top-smaller c = omega (arith, c.loop-top-test.true, c.pass-top-in-loop-top.ensures.counted)

pub loop-top-preserved : goal.loop-top-preserved
loop-top-preserved c = record { last = _; search = c.pass-top-in-loop-top.ensures.search }

pub shape_of-mark : goal.shape_of-mark
shape_of-mark c = c.loop-top.invariant.search.stamped.size ∙ sym c.requires.2.size

pub shape_of-stack : goal.shape_of-stack
shape_of-stack c = c.loop-top.invariant.search.stacked ∙ room_rows _ _ ∙ sym c.requires.3

pub returns : goal.returns
returns c = search_end _ _ _ _ c.loop-top.top _ _ c.loop-top.invariant.search (omega (arith, c.loop-top-test.false)) refl
