use mathlib.Core.Path.{sym, ◌∙◌}
use native.Mathlib.Omega.{arith}
use Rattle.table_book.specs.Book.{part}
use Rattle.paper_query.specs.Constructs.{called}
use Rattle.query_rows.specs.Rowed.{doc_of}
use Rattle.query_rows.proofs.RowsIn.{rowed_sized}
use Rattle.query_links.proofs.ChainWalks.{family_less, family_room}
use Rattle.plan_rows.proofs.RankLaws.{numbers_start, numbers_here, numbers_on, numbers_past, numbers_end, variable_is}
use Rattle.plan_rows.proofs.variable_number.Goals as goal

pub link_of-i-requires : goal.link_of-i-requires
link_of-i-requires c = omega (arith, c.requires.1.firsts, c.requires.2)

pub loop-i-init : goal.loop-i-init
loop-i-init c = λ f most. numbers_start c.args.rows.now c.args.first.now c.args.next.now c.args.n f c.args.o most (called (doc_of c.args.s.now c.args.rows.now c.args.n) (part c.args.t.now c.args.at c.args.l)) c.link_of-i.ensures

pub link_of-after-requires : goal.link_of-after-requires
link_of-after-requires c = family_room _ _ _ _ c.requires.1 _ c.loop-i-test.true c.requires.0.few

pub is_variable_of-requires : goal.is_variable_of-requires
is_variable_of-requires c = rowed_sized c.requires.0

pub returns-then-is_called : goal.returns-then-is_called
returns-then-is_called c = numbers_here c.args.rows.now c.args.first.now c.args.next.now c.args.n c.requires.1 c.args.o c.requires.2 (called (doc_of c.args.s.now c.args.rows.now c.args.n) (part c.args.t.now c.args.at c.args.l)) c.loop-i.k c.loop-i.i (c.loop-i.invariant c.requires.1 c.requires.2) c.loop-i-test.true (sym c.is_variable_of.ensures ∙ c.if-is_variable_of.true) (sym c.is_called.ensures ∙ c.if-is_called.true) ∙ variable_is (doc_of c.args.s.now c.args.rows.now c.args.n) c.args.o (part c.args.t.now c.args.at c.args.l)

pub overflow_add-k : goal.overflow_add-k
overflow_add-k c = omega (arith, (c.loop-i.invariant c.requires.1 c.requires.2).counts.low, c.loop-i-test.true, c.requires.0.few)

pub loop-i-smaller-then-is_variable_of : goal.loop-i-smaller-then-is_variable_of
loop-i-smaller-then-is_variable_of c = omega (arith, c.loop-i-test.true, family_less c.args.rows.now c.args.n c.args.first.now c.args.next.now c.requires.1 c.loop-i.i c.loop-i-test.true c.link_of-after.ensures)

pub loop-i-preserved-then-is_variable_of : goal.loop-i-preserved-then-is_variable_of
loop-i-preserved-then-is_variable_of c = λ f most. numbers_on c.args.rows.now c.args.first.now c.args.next.now c.args.n f c.args.o most (called (doc_of c.args.s.now c.args.rows.now c.args.n) (part c.args.t.now c.args.at c.args.l)) c.loop-i.k c.loop-i.i (c.loop-i.invariant f most) c.loop-i-test.true (sym c.is_variable_of.ensures ∙ c.if-is_variable_of.true) (sym c.is_called.ensures ∙ c.if-is_called.false) c.link_of-after.ensures

pub loop-i-smaller : goal.loop-i-smaller
loop-i-smaller c = omega (arith, c.loop-i-test.true, family_less c.args.rows.now c.args.n c.args.first.now c.args.next.now c.requires.1 c.loop-i.i c.loop-i-test.true c.link_of-after.ensures)

pub loop-i-preserved : goal.loop-i-preserved
loop-i-preserved c = λ f most. numbers_past c.args.rows.now c.args.first.now c.args.next.now c.args.n f c.args.o most (called (doc_of c.args.s.now c.args.rows.now c.args.n) (part c.args.t.now c.args.at c.args.l)) c.loop-i.k c.loop-i.i (c.loop-i.invariant f most) c.loop-i-test.true (sym c.is_variable_of.ensures ∙ c.if-is_variable_of.false) c.link_of-after.ensures

pub returns : goal.returns
returns c = numbers_end c.args.rows.now c.args.first.now c.args.next.now c.args.n c.requires.1 c.args.o c.requires.2 (called (doc_of c.args.s.now c.args.rows.now c.args.n) (part c.args.t.now c.args.at c.args.l)) c.loop-i.k c.loop-i.i (c.loop-i.invariant c.requires.1 c.requires.2) c.loop-i-test.false ∙ variable_is (doc_of c.args.s.now c.args.rows.now c.args.n) c.args.o (part c.args.t.now c.args.at c.args.l)
