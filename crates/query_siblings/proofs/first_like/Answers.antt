-- Along the rows beside row i: the first that is like it from here on is the first of all.
use mathlib.Core.Path.{sym, ap, ◌∙◌}
use Prim.Native.Nat.{ℕ}
use native.Mathlib.Omega.{arith}
use lib.ListN.{get_or}
use Rattle.query_rows.proofs.RowsIn.{name_within}
use Rattle.query_links.proofs.ChainWalks.{family_less, family_room}
use Rattle.query_siblings.proofs.BesideLaws.{parent_most, as_called, liking_start, liking_next, liking_here, liking_end}
use Rattle.query_siblings.proofs.first_like.Goals as goal

pub link_of-j-requires : goal.link_of-j-requires
link_of-j-requires c = let a = c.args in
    let p = c.requires in
    omega (arith, p.1.firsts, c.parent_of-p.ensures, parent_most a.s.now a.rows.now a.n a.i p.0 p.2)

pub loop-j-init : goal.loop-j-init
loop-j-init c = let a = c.args in
    let p = c.requires in
    liking_start a.s.now a.rows.now a.n a.i a.first.now a.next.now p.1 (parent_most a.s.now a.rows.now a.n a.i p.0 p.2) (c.link_of-j.ensures ∙ ap (λ (x : ℕ). get_or a.first.now x 0) c.parent_of-p.ensures)

pub is_kind_called-requires : goal.is_kind_called-requires
is_kind_called-requires c = let a = c.args in
    let p = c.requires in
    (p.0, omega (arith, c.name_of-at.ensures, c.size_of-l.ensures, name_within a.s.now a.rows.now a.n p.0 a.i))

pub returns-then-is_kind_called : goal.returns-then-is_kind_called
returns-then-is_kind_called c = let a = c.args in
    liking_here a.s.now a.rows.now a.n a.i c.loop-j.j c.loop-j.invariant c.loop-j-test.true (as_called a.s.now a.rows.now a.n a.i _ _ _ c.loop-j.j c.kind_of-k.ensures c.name_of-at.ensures c.size_of-l.ensures ∙ sym c.is_kind_called.ensures ∙ c.if-is_kind_called.true)

pub link_of-j-requires-in-loop-j : goal.link_of-j-requires-in-loop-j
link_of-j-requires-in-loop-j c = let p = c.requires in
    family_room _ _ _ _ p.1 _ c.loop-j-test.true p.0.few

pub loop-j-smaller : goal.loop-j-smaller
loop-j-smaller c = let a = c.args in
    omega (arith, c.loop-j-test.true, family_less a.rows.now a.n a.first.now a.next.now c.requires.1 c.loop-j.j c.loop-j-test.true c.link_of-j-in-loop-j.ensures)

pub loop-j-preserved : goal.loop-j-preserved
loop-j-preserved c = let a = c.args in
    liking_next a.s.now a.rows.now a.n a.i c.loop-j.j c.loop-j.invariant a.first.now a.next.now c.requires.1 c.loop-j-test.true (as_called a.s.now a.rows.now a.n a.i _ _ _ c.loop-j.j c.kind_of-k.ensures c.name_of-at.ensures c.size_of-l.ensures ∙ sym c.is_kind_called.ensures ∙ c.if-is_kind_called.false) c.link_of-j-in-loop-j.ensures

pub returns : goal.returns
returns c = let a = c.args in
    liking_end a.s.now a.rows.now a.n a.i c.loop-j.j c.loop-j.invariant c.loop-j-test.false
