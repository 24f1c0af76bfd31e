-- Two tests, two stores: there is room on the stack as long as a row is not marked.
use native.Mathlib.Omega.{arith}
use Rattle.query_reach_pass.specs.Marks.Noted.{none, old, new}
use Rattle.query_reach_pass.proofs.SearchLaws.{noted_room}
use Rattle.query_reach_pass.proofs.note.Goals as goal

pub returns-then-n-f : goal.returns-then-n-f
returns-then-n-f c = none c.if-n-f.true

pub returns-then-mark-f : goal.returns-then-mark-f
returns-then-mark-f c = old c.if-mark-f.true

pub bounds-stack-top : goal.bounds-stack-top
bounds-stack-top c = let a = c.args in
    omega (arith, c.requires.stacked, noted_room a.stamp a.f a.mark.now a.top (omega (arith, c.if-n-f.false, c.requires.few)) c.if-mark-f.false c.requires.room)

pub returns : goal.returns
returns c = new c.if-n-f.false c.if-mark-f.false
