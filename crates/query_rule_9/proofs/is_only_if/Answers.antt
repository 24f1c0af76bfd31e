-- No argument, two, or one.
use mathlib.Core.Path.{ap, ◌∙◌}
use native.Mathlib.Omega.{arith}
use Rattle.paper.specs.Numbers.{kind_argument}
use Rattle.paper_query.specs.Rule9Directive.{is_if}
use Rattle.query_rows.specs.Rowed.{doc_of}
use Rattle.query_rows.proofs.RowsIn.{rows_count, rowed_sized}
use Rattle.query_links.proofs.ChainWalks.{family_room}
use Rattle.query_rule_9.proofs.DirectiveLaws.{second_below_is, second_within, only_none, only_more, only_one_is}
use Rattle.query_rule_9.proofs.is_only_if.Goals as goal

pub first_below-a-requires : goal.first_below-a-requires
first_below-a-requires c = let p = c.requires in
    (rowed_sized p.0, p.1, p.2)

pub returns-then-n-a : goal.returns-then-n-a
returns-then-n-a c = let a = c.args in
    only_none (doc_of a.s.now a.rows.now a.n) a.i (omega (arith, c.if-n-a.true, c.first_below-a.ensures, rows_count a.rows.now a.n))

pub link_of-requires : goal.link_of-requires
link_of-requires c = let p = c.requires in
    family_room _ _ _ _ p.1 _ c.if-n-a.false p.0.few

pub next_beside-requires : goal.next_beside-requires
next_beside-requires c = let a = c.args in
    let p = c.requires in
    (rowed_sized p.0, record { first = a.first.now; family = p.1 }, second_within a.rows.now a.n a.first.now a.next.now p.1 kind_argument a.i c.first_below-a.result c.link_of.result (omega (arith, c.if-n-a.false)) c.first_below-a.ensures c.link_of.ensures)

pub returns-then-next_beside-n : goal.returns-then-next_beside-n
returns-then-next_beside-n c = let a = c.args in
    let p = c.requires in
    let l = c.if-n-a.false in
    let e = c.first_below-a.ensures in
    let f = c.next_beside.ensures ∙ second_below_is a.rows.now a.n a.first.now a.next.now p.1 kind_argument a.i c.first_below-a.result c.link_of.result (omega arith) e c.link_of.ensures in
    only_more (doc_of a.s.now a.rows.now a.n) a.i (omega (arith, e, l, rows_count a.rows.now a.n)) (omega (arith, f, c.if-next_beside-n.true, rows_count a.rows.now a.n))

pub is_if-requires : goal.is_if-requires
is_if-requires c = let p = c.requires in
    (p.0, p.1, omega (arith, c.if-n-a.false))

pub returns : goal.returns
returns c = let a = c.args in
    let p = c.requires in
    let l = c.if-n-a.false in
    let e = c.first_below-a.ensures in
    let f = c.next_beside.ensures ∙ second_below_is a.rows.now a.n a.first.now a.next.now p.1 kind_argument a.i c.first_below-a.result c.link_of.result (omega arith) e c.link_of.ensures in
    c.is_if.ensures ∙ ap (is_if (doc_of a.s.now a.rows.now a.n)) e
    ∙ only_one_is (doc_of a.s.now a.rows.now a.n) a.i (omega (arith, e, l, rows_count a.rows.now a.n)) (omega (arith, f, c.if-next_beside-n.false, rows_count a.rows.now a.n))
