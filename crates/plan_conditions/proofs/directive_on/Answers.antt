use mathlib.Core.Path.{sym, ◌∙◌}
use native.Mathlib.Omega.{arith}
use Rattle.table_book.specs.Book.{part}
use Rattle.query_links.proofs.ChainWalks.{family_less, family_room}
use Rattle.plan_conditions.proofs.ConditionLaws.{directing_start, directing_next, directing_here, directing_end}
use Rattle.plan_conditions.proofs.directive_on.Goals as goal

pub link_of-j-requires : goal.link_of-j-requires
link_of-j-requires c = let p = c.requires in
    omega (arith, p.1.firsts, p.2, p.0.few)

pub loop-j-init : goal.loop-j-init
loop-j-init c = let a = c.args in
    let p = c.requires in
    directing_start a.s.now a.rows.now a.n a.first.now a.next.now p.1 a.i (part a.t.now a.at a.l) (omega (arith, p.2, p.0.few)) c.link_of-j.ensures

pub returns-then-is_directive_called : goal.returns-then-is_directive_called
returns-then-is_directive_called c = let a = c.args in
    let p = c.requires in
    let w = c.loop-j in
    directing_here a.s.now a.rows.now a.n a.first.now a.next.now p.1 a.i (part a.t.now a.at a.l) w.j w.invariant c.loop-j-test.true (sym c.is_directive_called.ensures ∙ c.if-is_directive_called.true)

pub link_of-j-requires-in-loop-j : goal.link_of-j-requires-in-loop-j
link_of-j-requires-in-loop-j c = let p = c.requires in
    family_room _ _ _ _ p.1 _ c.loop-j-test.true p.0.few

pub loop-j-smaller : goal.loop-j-smaller
loop-j-smaller c = let a = c.args in
    let p = c.requires in
    omega (arith, c.loop-j-test.true, family_less a.rows.now a.n a.first.now a.next.now p.1 c.loop-j.j c.loop-j-test.true c.link_of-j-in-loop-j.ensures)

pub loop-j-preserved : goal.loop-j-preserved
loop-j-preserved c = let a = c.args in
    let p = c.requires in
    let w = c.loop-j in
    directing_next a.s.now a.rows.now a.n a.first.now a.next.now p.1 a.i (part a.t.now a.at a.l) w.j w.invariant c.loop-j-test.true (sym c.is_directive_called.ensures ∙ c.if-is_directive_called.false) c.link_of-j-in-loop-j.ensures

pub returns : goal.returns
returns c = let a = c.args in
    let p = c.requires in
    let w = c.loop-j in
    directing_end a.s.now a.rows.now a.n a.first.now a.next.now p.1 a.i (part a.t.now a.at a.l) w.j w.invariant c.loop-j-test.false
