-- Along the rows beside row j: the first of the kind from here on is the first from row j on.
use mathlib.Core.Path.{sym, ◌∙◌}
use native.Mathlib.Omega.{arith}
use Rattle.query_links.proofs.ChainWalks.{family_less, family_room}
use Rattle.query_siblings.proofs.BesideLaws.{seeking_start, seeking_next, seeking_here, seeking_end}
use Rattle.query_siblings.proofs.next_beside.Goals as goal

pub loop-m-init : goal.loop-m-init
loop-m-init c = let a = c.args in
    seeking_start a.rows.now a.n a.k a.j c.requires.2

pub returns-then-kind_of-k : goal.returns-then-kind_of-k
returns-then-kind_of-k c = let a = c.args in
    seeking_here a.rows.now a.n a.k a.j c.loop-m.m c.loop-m.invariant c.loop-m-test.true (sym c.kind_of.ensures ∙ c.if-kind_of-k.true)

pub link_of-m-requires : goal.link_of-m-requires
link_of-m-requires c = let p = c.requires in
    family_room _ _ _ _ p.1.family _ c.loop-m-test.true p.0.few

pub loop-m-smaller : goal.loop-m-smaller
loop-m-smaller c = let a = c.args in
    omega (arith, c.loop-m-test.true, family_less a.rows.now a.n c.requires.1.first a.next.now c.requires.1.family c.loop-m.m c.loop-m-test.true c.link_of-m.ensures)

pub loop-m-preserved : goal.loop-m-preserved
loop-m-preserved c = let a = c.args in
    seeking_next a.rows.now a.n a.k a.j c.loop-m.m c.loop-m.invariant c.requires.1.first a.next.now c.requires.1.family c.loop-m-test.true (λ q. c.if-kind_of-k.false (c.kind_of.ensures ∙ q)) c.link_of-m.ensures

pub returns : goal.returns
returns c = let a = c.args in
    seeking_end a.rows.now a.n a.k a.j c.loop-m.m c.loop-m.invariant c.loop-m-test.false
