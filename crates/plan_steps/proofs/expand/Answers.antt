-- The planner's second pass: each row gives its steps, or opens the level behind it; the chain leads to the next row below the holder, and where it ends
-- the tests of the row that was open are written.
use mathlib.Core.Path.{refl, sym, ◌∙◌}
use mathlib.Core.Logic.{inl, inr}
use Prim.Native.Nat.{◌+◌}
use native.Mathlib.Omega.{arith}
use lib.ListN.{length-set}
use Rattle.plan_steps.proofs.Writes.{do_none, do_apart, do_dropped, do_field, over_tests, over_field, none_fits, fitted_of, many_of}
use Rattle.plan_steps.proofs.Levels.{go_on, go_over, told_many, go_last, go_start, go_next, go_deeper, open_low, open_room, go_back, go_end}
use Rattle.plan_steps.proofs.Turns.{turns_on, turns_next, turns_in, turns_back}
use Rattle.plan_steps.proofs.expand.Goals as goal

pub returns-then-k-eq0 : goal.returns-then-k-eq0
returns-then-k-eq0 c = let a = c.args in inl (none_fits a.t.now a.n a.holder a.from a.k a.p.now c.if-k-eq0.true c.requires.0.first)

pub link_of-c-requires : goal.link_of-c-requires
link_of-c-requires c = omega (arith, c.requires.1.firsts, c.requires.2)

pub loop-c-init : goal.loop-c-init
loop-c-init c = let a = c.args in let q = c.requires in
    (go_start a.t.now a.n a.holder a.k a.from a.p.now a.first.now a.next.now q.1 a.rows.now a.steps.now c.if-k-eq0.false q.0.first q.2 c.link_of-c.ensures, refl, refl)

pub shape_of-rows-then-d-eq0 : goal.shape_of-rows-then-d-eq0
shape_of-rows-then-d-eq0 c = c.loop-c.invariant.1

pub shape_of-steps-then-d-eq0 : goal.shape_of-steps-then-d-eq0
shape_of-steps-then-d-eq0 c = c.loop-c.invariant.2

pub shape_of-p-then-d-eq0 : goal.shape_of-p-then-d-eq0
shape_of-p-then-d-eq0 c = c.loop-c.invariant.0.size

pub returns-then-d-eq0 : goal.returns-then-d-eq0
returns-then-d-eq0 c = let a = c.args in let q = c.requires in let l = c.loop-c in let g = c.loop-c.invariant.0 in
    inl (go_end a.t.now a.n a.holder a.k a.from a.p.now l.rows l.steps l.p l.d l.h l.at l.c g c.if-d-eq0.true c.if-n-c.true)

pub overflow_sub-d : goal.overflow_sub-d
overflow_sub-d c = omega (arith, c.if-d-eq0.false)

pub link_of-r-requires : goal.link_of-r-requires
link_of-r-requires c = omega (arith, c.loop-c.invariant.0.levels, c.loop-c.invariant.1, c.requires.3, c.if-d-eq0.false)

pub link_of-requires : goal.link_of-requires
link_of-requires c = omega (arith, c.loop-c.invariant.0.levels, c.loop-c.invariant.2, c.requires.4, c.if-d-eq0.false)

pub put_tests-requires : goal.put_tests-requires
put_tests-requires c = let a = c.args in let q = c.requires in let l = c.loop-c in let g = c.loop-c.invariant.0 in
    let low = open_low a.t.now a.n a.holder a.k a.from a.p.now a.first.now a.next.now q.1 l.rows l.steps l.p l.d l.h l.at l.c g c.if-d-eq0.false c.link_of-r.ensures c.link_of.ensures in let room = open_room a.t.now a.n a.holder a.k a.from a.p.now a.first.now a.next.now q.1 l.rows l.steps l.p l.d l.h l.at l.c g c.if-d-eq0.false c.link_of-r.ensures c.link_of.ensures in
    ((omega (arith, low, q.0.table), omega (arith, low, q.0.rows)), q.0.few _ low, room, g.doing.top, omega (arith, g.size, q.0.long))

pub above_of-h-requires : goal.above_of-h-requires
above_of-h-requires c = let a = c.args in let q = c.requires in let l = c.loop-c in let g = c.loop-c.invariant.0 in
    let low = open_low a.t.now a.n a.holder a.k a.from a.p.now a.first.now a.next.now q.1 l.rows l.steps l.p l.d l.h l.at l.c g c.if-d-eq0.false c.link_of-r.ensures c.link_of.ensures in (omega (arith, low, q.0.table), omega (arith, low, q.0.rows))

pub link_of-c-requires-then-n-c : goal.link_of-c-requires-then-n-c
link_of-c-requires-then-n-c c = let a = c.args in let q = c.requires in let l = c.loop-c in let g = c.loop-c.invariant.0 in
    let low = open_low a.t.now a.n a.holder a.k a.from a.p.now a.first.now a.next.now q.1 l.rows l.steps l.p l.d l.h l.at l.c g c.if-d-eq0.false c.link_of-r.ensures c.link_of.ensures in omega (arith, low, q.1.nexts)

pub loop-c-smaller-then-n-c : goal.loop-c-smaller-then-n-c
loop-c-smaller-then-n-c c = let a = c.args in let q = c.requires in let l = c.loop-c in let g = c.loop-c.invariant.0 in
    let low = open_low a.t.now a.n a.holder a.k a.from a.p.now a.first.now a.next.now q.1 l.rows l.steps l.p l.d l.h l.at l.c g c.if-d-eq0.false c.link_of-r.ensures c.link_of.ensures in turns_back a.n a.k l.rows l.d l.c c.if-d-eq0.false c.link_of-r.ensures c.link_of-c-then-n-c.ensures (q.1.later _ low)

pub loop-c-preserved-then-n-c : goal.loop-c-preserved-then-n-c
loop-c-preserved-then-n-c c = let a = c.args in let q = c.requires in let l = c.loop-c in let g = c.loop-c.invariant.0 in
    (go_back a.t.now a.n a.holder a.k a.from a.p.now a.first.now a.next.now q.1 l.rows l.steps l.p l.d l.h l.at l.c g c.if-d-eq0.false c.link_of-r.ensures c.link_of.ensures _ c.if-n-c.true c.put_tests.ensures c.above_of-h.ensures c.link_of-c-then-n-c.ensures, l.invariant.1, l.invariant.2)

pub above_of-requires : goal.above_of-requires
above_of-requires c = let q = c.requires in (omega (arith, c.if-n-c.false, q.0.table), omega (arith, c.if-n-c.false, q.0.rows))

pub overflow_add-c : goal.overflow_add-c
overflow_add-c c = omega (arith, c.if-n-c.false, c.requires.0.rows)

pub loop-c-smaller-then-above_of-h : goal.loop-c-smaller-then-above_of-h
loop-c-smaller-then-above_of-h c = let a = c.args in let l = c.loop-c in turns_on a.n a.k l.rows l.d l.c (l.c + 1) c.if-n-c.false (omega arith)

pub loop-c-preserved-then-above_of-h : goal.loop-c-preserved-then-above_of-h
loop-c-preserved-then-above_of-h c = let a = c.args in let q = c.requires in let l = c.loop-c in let g = c.loop-c.invariant.0 in
    (go_on a.t.now a.n a.holder a.k a.from a.p.now l.rows l.steps l.p l.d l.h l.at l.c g l.p l.at (l.c + 1) (do_apart a.t.now a.n l.h g.own g.start g.before l.p l.at l.c g.doing c.if-n-c.false (λ e. c.if-above_of-h.true (c.above_of.ensures ∙ e))), l.invariant.1, l.invariant.2)

pub what_of-what-requires : goal.what_of-what-requires
what_of-what-requires c = let q = c.requires in (omega (arith, c.if-n-c.false, q.0.table), omega (arith, c.if-n-c.false, q.0.rows))

pub link_of-c-requires-then-what-eq-WHAT_NONE : goal.link_of-c-requires-then-what-eq-WHAT_NONE
link_of-c-requires-then-what-eq-WHAT_NONE c = omega (arith, c.if-n-c.false, c.requires.1.nexts)

pub loop-c-smaller-then-what-eq-WHAT_NONE : goal.loop-c-smaller-then-what-eq-WHAT_NONE
loop-c-smaller-then-what-eq-WHAT_NONE c = let a = c.args in let l = c.loop-c in turns_next a.n a.k l.rows l.d l.c c.if-n-c.false c.link_of-c-then-what-eq-WHAT_NONE.ensures (c.requires.1.later l.c c.if-n-c.false)

pub loop-c-preserved-then-what-eq-WHAT_NONE : goal.loop-c-preserved-then-what-eq-WHAT_NONE
loop-c-preserved-then-what-eq-WHAT_NONE c = let a = c.args in let q = c.requires in let l = c.loop-c in let g = c.loop-c.invariant.0 in
    (go_next a.t.now a.n a.holder a.k a.from a.p.now a.first.now a.next.now q.1 l.rows l.steps l.p l.d l.h l.at l.c g l.p l.at (do_none a.t.now a.n l.h g.own g.start g.before l.p l.at l.c g.doing c.if-n-c.false (sym c.what_of-what.ensures ∙ c.if-what-eq-WHAT_NONE.true)) c.if-n-c.false (sym c.above_of.ensures ∙ c.if-above_of-h.false) c.link_of-c-then-what-eq-WHAT_NONE.ensures, l.invariant.1, l.invariant.2)

pub link_of-c-requires-then-what-eq-WHAT_DROPPED : goal.link_of-c-requires-then-what-eq-WHAT_DROPPED
link_of-c-requires-then-what-eq-WHAT_DROPPED c = omega (arith, c.if-n-c.false, c.requires.1.nexts)

pub loop-c-smaller-then-what-eq-WHAT_DROPPED : goal.loop-c-smaller-then-what-eq-WHAT_DROPPED
loop-c-smaller-then-what-eq-WHAT_DROPPED c = let a = c.args in let l = c.loop-c in turns_next a.n a.k l.rows l.d l.c c.if-n-c.false c.link_of-c-then-what-eq-WHAT_DROPPED.ensures (c.requires.1.later l.c c.if-n-c.false)

pub loop-c-preserved-then-what-eq-WHAT_DROPPED : goal.loop-c-preserved-then-what-eq-WHAT_DROPPED
loop-c-preserved-then-what-eq-WHAT_DROPPED c = let a = c.args in let q = c.requires in let l = c.loop-c in let g = c.loop-c.invariant.0 in
    (go_next a.t.now a.n a.holder a.k a.from a.p.now a.first.now a.next.now q.1 l.rows l.steps l.p l.d l.h l.at l.c g l.p l.at (do_dropped a.t.now a.n l.h g.own g.start g.before l.p l.at l.c g.doing c.if-n-c.false (sym c.above_of.ensures ∙ c.if-above_of-h.false) (sym c.what_of-what.ensures ∙ c.if-what-eq-WHAT_DROPPED.true)) c.if-n-c.false (sym c.above_of.ensures ∙ c.if-above_of-h.false) c.link_of-c-then-what-eq-WHAT_DROPPED.ensures, l.invariant.1, l.invariant.2)

pub put_field-at-requires : goal.put_field-at-requires
put_field-at-requires c = let a = c.args in let q = c.requires in let l = c.loop-c in let g = c.loop-c.invariant.0 in
    ((omega (arith, c.if-n-c.false, q.0.table), omega (arith, c.if-n-c.false, q.0.rows)), q.0.few l.c c.if-n-c.false, q.0.held l.c c.if-n-c.false, g.doing.top, omega (arith, g.size, q.0.long))

pub shape_of-rows-then-at-eq-TOO_MANY_STEPS : goal.shape_of-rows-then-at-eq-TOO_MANY_STEPS
shape_of-rows-then-at-eq-TOO_MANY_STEPS c = c.loop-c.invariant.1

pub shape_of-steps-then-at-eq-TOO_MANY_STEPS : goal.shape_of-steps-then-at-eq-TOO_MANY_STEPS
shape_of-steps-then-at-eq-TOO_MANY_STEPS c = c.loop-c.invariant.2

pub shape_of-p-then-at-eq-TOO_MANY_STEPS : goal.shape_of-p-then-at-eq-TOO_MANY_STEPS
shape_of-p-then-at-eq-TOO_MANY_STEPS c = c.p-then-what-eq-WHAT_FIELD-1.given ∙ c.loop-c.invariant.0.size

pub returns-then-at-eq-TOO_MANY_STEPS : goal.returns-then-at-eq-TOO_MANY_STEPS
returns-then-at-eq-TOO_MANY_STEPS c = let a = c.args in let q = c.requires in let l = c.loop-c in let g = c.loop-c.invariant.0 in
    told_many c.if-at-eq-TOO_MANY_STEPS.true (go_over a.t.now a.n a.holder a.k a.from a.p.now l.rows l.steps l.p l.d l.h l.at l.c g (over_field a.t.now a.n l.h g.own g.start g.before l.p l.at l.c g.doing c.if-n-c.false _ (sym c.above_of.ensures ∙ c.if-above_of-h.false) (sym c.what_of-what.ensures ∙ c.if-what-eq-WHAT_FIELD.true) (many_of c.put_field-at.ensures c.if-at-eq-TOO_MANY_STEPS.true)))

pub link_of-c-requires-then-what-eq-WHAT_FIELD : goal.link_of-c-requires-then-what-eq-WHAT_FIELD
link_of-c-requires-then-what-eq-WHAT_FIELD c = omega (arith, c.if-n-c.false, c.requires.1.nexts)

pub loop-c-smaller-then-what-eq-WHAT_FIELD : goal.loop-c-smaller-then-what-eq-WHAT_FIELD
loop-c-smaller-then-what-eq-WHAT_FIELD c = let a = c.args in let l = c.loop-c in turns_next a.n a.k l.rows l.d l.c c.if-n-c.false c.link_of-c-then-what-eq-WHAT_FIELD.ensures (c.requires.1.later l.c c.if-n-c.false)

pub loop-c-preserved-then-what-eq-WHAT_FIELD : goal.loop-c-preserved-then-what-eq-WHAT_FIELD
loop-c-preserved-then-what-eq-WHAT_FIELD c = let a = c.args in let q = c.requires in let l = c.loop-c in let g = c.loop-c.invariant.0 in
    (go_next a.t.now a.n a.holder a.k a.from a.p.now a.first.now a.next.now q.1 l.rows l.steps l.p l.d l.h l.at l.c g _ _ (do_field a.t.now a.n l.h g.own g.start g.before l.p l.at l.c g.doing c.if-n-c.false _ _ (sym c.above_of.ensures ∙ c.if-above_of-h.false) (sym c.what_of-what.ensures ∙ c.if-what-eq-WHAT_FIELD.true) (fitted_of c.put_field-at.ensures c.if-at-eq-TOO_MANY_STEPS.false)) c.if-n-c.false (sym c.above_of.ensures ∙ c.if-above_of-h.false) c.link_of-c-then-what-eq-WHAT_FIELD.ensures, l.invariant.1, l.invariant.2)

pub count_of-m-requires : goal.count_of-m-requires
count_of-m-requires c = let q = c.requires in (omega (arith, c.if-n-c.false, q.0.table), omega (arith, c.if-n-c.false, q.0.rows))

pub overflow_add-at : goal.overflow_add-at
overflow_add-at c = let a = c.args in let q = c.requires in let l = c.loop-c in let g = c.loop-c.invariant.0 in
    omega (arith, c.count_of-m.ensures, q.0.few l.c c.if-n-c.false, g.doing.top)

pub shape_of-rows-then-at-m-gt-STEPS : goal.shape_of-rows-then-at-m-gt-STEPS
shape_of-rows-then-at-m-gt-STEPS c = c.loop-c.invariant.1

pub shape_of-steps-then-at-m-gt-STEPS : goal.shape_of-steps-then-at-m-gt-STEPS
shape_of-steps-then-at-m-gt-STEPS c = c.loop-c.invariant.2

pub shape_of-p-then-at-m-gt-STEPS : goal.shape_of-p-then-at-m-gt-STEPS
shape_of-p-then-at-m-gt-STEPS c = c.loop-c.invariant.0.size

pub returns-then-at-m-gt-STEPS : goal.returns-then-at-m-gt-STEPS
returns-then-at-m-gt-STEPS c = let a = c.args in let q = c.requires in let l = c.loop-c in let g = c.loop-c.invariant.0 in
    inr (go_over a.t.now a.n a.holder a.k a.from a.p.now l.rows l.steps l.p l.d l.h l.at l.c g (over_tests a.t.now a.n l.h g.own g.start g.before l.p l.at l.c g.doing c.if-n-c.false (sym c.above_of.ensures ∙ c.if-above_of-h.false) (λ e. c.if-what-eq-WHAT_NONE.false (c.what_of-what.ensures ∙ e)) (λ e. c.if-what-eq-WHAT_DROPPED.false (c.what_of-what.ensures ∙ e)) (omega (arith, c.if-at-m-gt-STEPS.true, c.count_of-m.ensures))))

pub overflow_add-d : goal.overflow_add-d
overflow_add-d c = let a = c.args in let q = c.requires in let l = c.loop-c in let g = c.loop-c.invariant.0 in
    omega (arith, g.levels, c.requires.3, l.invariant.1, c.if-n-c.false)

pub overflow_add-at-then-d-k : goal.overflow_add-at-then-d-k
overflow_add-at-then-d-k c = omega (arith, c.if-at-m-gt-STEPS.false)

pub put_tests-requires-then-d-k : goal.put_tests-requires-then-d-k
put_tests-requires-then-d-k c = let a = c.args in let q = c.requires in let l = c.loop-c in let g = c.loop-c.invariant.0 in
    ((omega (arith, c.if-n-c.false, q.0.table), omega (arith, c.if-n-c.false, q.0.rows)), q.0.few l.c c.if-n-c.false, omega (arith, c.if-at-m-gt-STEPS.false, c.count_of-m.ensures), c.if-at-m-gt-STEPS.false, omega (arith, g.size, q.0.long))

pub overflow_add-at-then-d-k-2 : goal.overflow_add-at-then-d-k-2
overflow_add-at-then-d-k-2 c = omega (arith, c.if-at-m-gt-STEPS.false)

pub link_of-c-requires-then-d-k : goal.link_of-c-requires-then-d-k
link_of-c-requires-then-d-k c = omega (arith, c.if-n-c.false, c.requires.1.nexts)

pub loop-c-smaller-then-d-k : goal.loop-c-smaller-then-d-k
loop-c-smaller-then-d-k c = let a = c.args in let l = c.loop-c in turns_next a.n a.k l.rows l.d l.c c.if-n-c.false c.link_of-c-then-d-k.ensures (c.requires.1.later l.c c.if-n-c.false)

pub loop-c-preserved-then-d-k : goal.loop-c-preserved-then-d-k
loop-c-preserved-then-d-k c = let a = c.args in let q = c.requires in let l = c.loop-c in let g = c.loop-c.invariant.0 in
    (go_next a.t.now a.n a.holder a.k a.from a.p.now a.first.now a.next.now q.1 l.rows l.steps l.p l.d l.h l.at l.c g _ _ (go_last a.t.now a.n a.holder a.k a.from a.p.now l.rows l.steps l.p l.d l.h l.at l.c g _ c.if-n-c.false (sym c.above_of.ensures ∙ c.if-above_of-h.false) (λ e. c.if-what-eq-WHAT_NONE.false (c.what_of-what.ensures ∙ e)) (λ e. c.if-what-eq-WHAT_DROPPED.false (c.what_of-what.ensures ∙ e)) (λ e. c.if-what-eq-WHAT_FIELD.false (c.what_of-what.ensures ∙ e)) c.count_of-m.ensures c.if-at-m-gt-STEPS.false c.if-d-k.true c.put_tests-then-d-k.ensures) c.if-n-c.false (sym c.above_of.ensures ∙ c.if-above_of-h.false) c.link_of-c-then-d-k.ensures, l.invariant.1, l.invariant.2)

pub overflow_cast-rows : goal.overflow_cast-rows
overflow_cast-rows c = omega (arith, c.if-n-c.false, c.requires.0.rows)

pub bounds-rows-d : goal.bounds-rows-d
bounds-rows-d c = let a = c.args in let q = c.requires in let l = c.loop-c in let g = c.loop-c.invariant.0 in
    omega (arith, g.levels, c.if-d-k.false, l.invariant.1, q.3)

pub overflow_cast-steps : goal.overflow_cast-steps
overflow_cast-steps c = omega (arith, c.loop-c.invariant.0.doing.top)

pub bounds-steps-d : goal.bounds-steps-d
bounds-steps-d c = let a = c.args in let q = c.requires in let l = c.loop-c in let g = c.loop-c.invariant.0 in
    omega (arith, g.levels, c.if-d-k.false, l.invariant.2, q.4)

pub overflow_add-d-in-loop-c : goal.overflow_add-d-in-loop-c
overflow_add-d-in-loop-c c = let a = c.args in let q = c.requires in let l = c.loop-c in let g = c.loop-c.invariant.0 in
    omega (arith, g.levels, l.invariant.1, c.requires.3)

pub overflow_add-at-in-loop-c : goal.overflow_add-at-in-loop-c
overflow_add-at-in-loop-c c = omega (arith, c.if-at-m-gt-STEPS.false)

pub behind_of-h-requires : goal.behind_of-h-requires
behind_of-h-requires c = let q = c.requires in (omega (arith, c.if-n-c.false, q.0.table), omega (arith, c.if-n-c.false, q.0.rows))

pub link_of-c-requires-in-loop-c : goal.link_of-c-requires-in-loop-c
link_of-c-requires-in-loop-c c = omega (arith, c.behind_of-h.ensures, c.requires.0.held c.loop-c.c c.if-n-c.false, c.requires.1.firsts)

pub loop-c-smaller : goal.loop-c-smaller
loop-c-smaller c = let a = c.args in let q = c.requires in let l = c.loop-c in let g = c.loop-c.invariant.0 in
    turns_in a.n a.k l.rows l.d l.c _ c.if-n-c.false (omega (arith, g.levels)) (omega (arith, g.levels, c.if-d-k.false, l.invariant.1, q.3))

pub loop-c-preserved : goal.loop-c-preserved
loop-c-preserved c = let a = c.args in let q = c.requires in let l = c.loop-c in let g = c.loop-c.invariant.0 in
    (go_deeper a.t.now a.n a.holder a.k a.from a.p.now a.first.now a.next.now q.1 l.rows l.steps l.p l.d l.h l.at l.c g c.if-n-c.false (sym c.above_of.ensures ∙ c.if-above_of-h.false) (λ e. c.if-what-eq-WHAT_NONE.false (c.what_of-what.ensures ∙ e)) (λ e. c.if-what-eq-WHAT_DROPPED.false (c.what_of-what.ensures ∙ e)) (λ e. c.if-what-eq-WHAT_FIELD.false (c.what_of-what.ensures ∙ e)) c.count_of-m.ensures c.if-at-m-gt-STEPS.false c.if-d-k.false (omega (arith, g.levels, c.if-d-k.false, l.invariant.1, q.3)) (omega (arith, g.levels, c.if-d-k.false, l.invariant.2, q.4)) (q.0.held l.c c.if-n-c.false) c.behind_of-h.ensures c.link_of-c-in-loop-c.ensures, length-set l.rows l.d l.c ∙ l.invariant.1, length-set l.steps l.d l.at ∙ l.invariant.2)
