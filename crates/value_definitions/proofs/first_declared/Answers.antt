-- From row to row below row v, each over its own subtree.
use mathlib.Core.Path.{sym, ◌∙◌}
use native.Mathlib.Omega.{arith}
use Rattle.query_rows.proofs.RowsIn.{rowed_sized}
use Rattle.value_definitions.specs.Definitions.{is_declared}
use Rattle.value_definitions.proofs.SeekLaws.{seeks_start, seeks_here, seeks_next, seeks_end, declared_below}
use Rattle.value_definitions.proofs.first_declared.Goals as goal

pub past_of-e-requires : goal.past_of-e-requires
past_of-e-requires c = let p = c.requires in (rowed_sized p.0.rowed, p.0.pasts, p.1)

pub loop-j-init : goal.loop-j-init
loop-j-init c = let a = c.args in
    let p = c.requires in
    seeks_start (is_declared a.v) a.v (declared_below a.v) a.s.now a.rows.now a.n p.0.rowed p.1

pub is_declared-requires : goal.is_declared-requires
is_declared-requires c = rowed_sized c.requires.0.rowed

pub returns-then-is_declared : goal.returns-then-is_declared
returns-then-is_declared c = let a = c.args in
    let p = c.requires in
    seeks_here (is_declared a.v) a.v (declared_below a.v) a.s.now a.rows.now a.n p.0.rowed p.1 c.loop-j.j c.loop-j.invariant
    (omega (arith, c.loop-j-test.true, c.past_of-e.ensures.2)) (sym c.is_declared.ensures ∙ c.if-is_declared.true)

pub past_of-j-requires : goal.past_of-j-requires
past_of-j-requires c = let p = c.requires in
    (rowed_sized p.0.rowed, p.0.pasts, omega (arith, c.loop-j-test.true, c.past_of-e.ensures.2))

pub loop-j-smaller : goal.loop-j-smaller
loop-j-smaller c = omega (arith, c.past_of-j.ensures.1, c.past_of-j.ensures.2, c.loop-j-test.true, c.past_of-e.ensures.2)

pub loop-j-preserved : goal.loop-j-preserved
loop-j-preserved c = let a = c.args in
    let p = c.requires in
    seeks_next (is_declared a.v) a.v (declared_below a.v) a.s.now a.rows.now a.n p.0.rowed p.1 c.loop-j.j c.past_of-j.result c.loop-j.invariant
    (omega (arith, c.loop-j-test.true, c.past_of-e.ensures.2)) (sym c.is_declared.ensures ∙ c.if-is_declared.false)
    c.past_of-j.ensures.0 c.past_of-j.ensures.2

pub returns : goal.returns
returns c = let a = c.args in
    let p = c.requires in
    seeks_end (is_declared a.v) a.v (declared_below a.v) a.s.now a.rows.now a.n p.0.rowed p.1 p.0.nested c.loop-j.j c.past_of-e.result c.loop-j.invariant
    c.past_of-e.ensures.0 c.loop-j-test.false
