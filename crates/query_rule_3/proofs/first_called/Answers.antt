-- Along the rows of kind k: the first of the name from here on is the first of all.
use mathlib.Core.Path.{sym, ◌∙◌}
use native.Mathlib.Omega.{arith}
use Rattle.table_book.specs.Book.{part}
use Rattle.query_links.proofs.ChainWalks.{kinds_room}
use Rattle.query_rule_3.proofs.CalledLaws.{calling_start, calling_less, calling_next, calling_here, calling_end}
use Rattle.query_rule_3.proofs.first_called.Goals as goal

pub link_of-j-requires : goal.link_of-j-requires
link_of-j-requires c = let p = c.requires in
    omega (arith, p.1.firsts, p.2)

pub loop-j-init : goal.loop-j-init
loop-j-init c = let a = c.args in
    let p = c.requires in
    calling_start a.s.now a.rows.now a.n a.firstk.now a.nextk.now p.1 a.k p.2 (part a.t.now a.at a.l) c.link_of-j.ensures

pub returns-then-is_called : goal.returns-then-is_called
returns-then-is_called c = let a = c.args in
    let p = c.requires in
    calling_here a.s.now a.rows.now a.n a.firstk.now a.nextk.now p.1 a.k p.2 (part a.t.now a.at a.l) c.loop-j.j c.loop-j.invariant c.loop-j-test.true (sym c.is_called.ensures ∙ c.if-is_called.true)

pub link_of-j-requires-in-loop-j : goal.link_of-j-requires-in-loop-j
link_of-j-requires-in-loop-j c = let p = c.requires in
    kinds_room _ _ _ _ p.1 _ c.loop-j-test.true p.0.few

pub loop-j-smaller : goal.loop-j-smaller
loop-j-smaller c = let a = c.args in
    let p = c.requires in
    omega (arith, c.loop-j-test.true, calling_less a.s.now a.rows.now a.n a.firstk.now a.nextk.now p.1 a.k p.2 (part a.t.now a.at a.l) c.loop-j.j c.loop-j.invariant c.loop-j-test.true c.link_of-j-in-loop-j.ensures)

pub loop-j-preserved : goal.loop-j-preserved
loop-j-preserved c = let a = c.args in
    let p = c.requires in
    calling_next a.s.now a.rows.now a.n a.firstk.now a.nextk.now p.1 a.k p.2 (part a.t.now a.at a.l) c.loop-j.j c.loop-j.invariant c.loop-j-test.true (sym c.is_called.ensures ∙ c.if-is_called.false) c.link_of-j-in-loop-j.ensures

pub returns : goal.returns
returns c = let a = c.args in
    let p = c.requires in
    calling_end a.s.now a.rows.now a.n a.firstk.now a.nextk.now p.1 a.k p.2 (part a.t.now a.at a.l) c.loop-j.j c.loop-j.invariant c.loop-j-test.false
