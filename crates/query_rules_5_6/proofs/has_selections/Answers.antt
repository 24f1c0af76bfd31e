-- A walk over the rows right below.
use mathlib.Core.Path.{◌≡◌, ap, ◌∙◌}
use mathlib.Core.Bool.{◌&&◌}
use Prim.Native.Nat.{ℕ, ◌<◌}
use native.Mathlib.Omega.{arith}
use lib.Dec.{leb}
use Rattle.paper.proofs.Bools.{and_right}
use Rattle.paper.specs.Numbers.{kind_field, kind_inline}
use Rattle.paper_query.specs.Constructs.{no_row, is_selection, below}
use Rattle.query_rows.specs.Rowed.{row_in, rows_in, doc_of}
use Rattle.query_rows.proofs.RowsIn.{rowed_sized}
use Rattle.query_links.proofs.Walks.{walk_any, end_any}
use Rattle.query_links.proofs.ChainWalks.{family_start, family_next, family_less, family_room}
use Rattle.query_rules_5_6.proofs.RuleLaws.{selects, selects_here, selections_are}
use Rattle.query_rules_5_6.proofs.has_selections.Goals as goal

pub link_of-j-requires : goal.link_of-j-requires
link_of-j-requires c = let g = c.requires in
    omega (arith, g.1.firsts, g.2, g.0.few)

pub loop-j-init : goal.loop-j-init
loop-j-init c = let a = c.args in
    let g = c.requires in
    family_start a.rows.now a.n a.first.now a.next.now g.1 a.i (selects a.i) (omega (arith, g.2, g.0.few)) (λ r e. and_right (is_selection r) (below a.i r) e) c.link_of-j.ensures

pub kind_of-requires : goal.kind_of-requires
kind_of-requires c = rowed_sized c.requires.0

pub returns-then-is_selection : goal.returns-then-is_selection
returns-then-is_selection c =
    let here : selects c.args.i (row_in c.args.rows.now c.args.n c.loop-j.j) ≡ c.is_selection.result = let a = c.args in
    let l = c.loop-j in
    selects_here a.i (row_in a.rows.now a.n l.j) c.is_selection.result (c.is_selection.ensures ∙ ap (λ (k : ℕ). leb kind_field k && leb k kind_inline) c.kind_of.ensures) (l.invariant.on c.loop-j-test.true) in
    let a = c.args in
    let l = c.loop-j in
    selections_are (doc_of a.s.now a.rows.now a.n) a.i (walk_any no_row (below a.i) (selects a.i) (rows_in a.rows.now a.n) a.n 0 l.j l.invariant c.loop-j-test.true (here ∙ c.if-is_selection.true))

pub link_of-j-requires-in-loop-j : goal.link_of-j-requires-in-loop-j
link_of-j-requires-in-loop-j c = let a = c.args in
    let g = c.requires in
    family_room a.rows.now a.n a.first.now a.next.now g.1 c.loop-j.j c.loop-j-test.true g.0.few

pub loop-j-smaller : goal.loop-j-smaller
loop-j-smaller c = let a = c.args in
    let l = c.loop-j in
    let h : l.j < c.link_of-j-in-loop-j.result = family_less a.rows.now a.n a.first.now a.next.now c.requires.1 l.j c.loop-j-test.true c.link_of-j-in-loop-j.ensures in
    omega (arith, c.loop-j-test.true)

pub loop-j-preserved : goal.loop-j-preserved
loop-j-preserved c =
    let here : selects c.args.i (row_in c.args.rows.now c.args.n c.loop-j.j) ≡ c.is_selection.result = let a = c.args in
    let l = c.loop-j in
    selects_here a.i (row_in a.rows.now a.n l.j) c.is_selection.result (c.is_selection.ensures ∙ ap (λ (k : ℕ). leb kind_field k && leb k kind_inline) c.kind_of.ensures) (l.invariant.on c.loop-j-test.true) in
    let a = c.args in
    let l = c.loop-j in
    family_next a.rows.now a.n a.first.now a.next.now c.requires.1 a.i (selects a.i) 0 l.j l.invariant c.loop-j-test.true (here ∙ c.if-is_selection.false) c.link_of-j-in-loop-j.ensures

pub returns : goal.returns
returns c = let a = c.args in
    let l = c.loop-j in
    selections_are (doc_of a.s.now a.rows.now a.n) a.i (end_any no_row (below a.i) (selects a.i) (rows_in a.rows.now a.n) a.n 0 l.j l.invariant c.loop-j-test.false)
