use mathlib.Core.Path.{sym, ◌∙◌}
use native.Mathlib.Omega.{arith}
use Rattle.query_links.proofs.ChainWalks.{family_less, family_room}
use Rattle.plan_conditions.proofs.ConditionLaws.{valuing_start, valuing_next, valuing_here, valuing_end}
use Rattle.plan_conditions.proofs.value_below.Goals as goal

pub link_of-j-requires : goal.link_of-j-requires
link_of-j-requires c = let p = c.requires in
    omega (arith, p.1.firsts, p.2, p.0.few)

pub loop-j-init : goal.loop-j-init
loop-j-init c = let a = c.args in
    let p = c.requires in
    valuing_start a.rows.now a.n a.first.now a.next.now p.1 a.a (omega (arith, p.2, p.0.few)) c.link_of-j.ensures

pub returns-then-is_value : goal.returns-then-is_value
returns-then-is_value c = let a = c.args in
    let p = c.requires in
    let w = c.loop-j in
    valuing_here a.rows.now a.n a.first.now a.next.now p.1 a.a w.j w.invariant c.loop-j-test.true (sym c.is_value.ensures ∙ c.if-is_value.true)

pub link_of-j-requires-in-loop-j : goal.link_of-j-requires-in-loop-j
link_of-j-requires-in-loop-j c = let p = c.requires in
    family_room _ _ _ _ p.1 _ c.loop-j-test.true p.0.few

pub loop-j-smaller : goal.loop-j-smaller
loop-j-smaller c = let a = c.args in
    let p = c.requires in
    omega (arith, c.loop-j-test.true, family_less a.rows.now a.n a.first.now a.next.now p.1 c.loop-j.j c.loop-j-test.true c.link_of-j-in-loop-j.ensures)

pub loop-j-preserved : goal.loop-j-preserved
loop-j-preserved c = let a = c.args in
    let p = c.requires in
    let w = c.loop-j in
    valuing_next a.rows.now a.n a.first.now a.next.now p.1 a.a w.j w.invariant c.loop-j-test.true (sym c.is_value.ensures ∙ c.if-is_value.false) c.link_of-j-in-loop-j.ensures

pub returns : goal.returns
returns c = let a = c.args in
    let p = c.requires in
    let w = c.loop-j in
    valuing_end a.rows.now a.n a.first.now a.next.now p.1 a.a w.j w.invariant c.loop-j-test.false
