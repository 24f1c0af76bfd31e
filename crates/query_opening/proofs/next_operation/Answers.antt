use mathlib.Core.Path.{sym, ◌∙◌}
use borrow.Author.Tests.{eq-eqb, ne_eqb}
use Rattle.paper.specs.Numbers.{kind_operation}
use Rattle.paper_query.specs.Constructs.{is}
use Rattle.query_opening.proofs.OpeningLaws.{seeks_start, seeks_here, seeks_on, seeks_end}
use Rattle.query_opening.proofs.next_operation.Goals as goal

pub loop-i-init : goal.loop-i-init
loop-i-init c = seeks_start c.args.rows.now c.args.n (is kind_operation) c.args.from c.requires.1

pub returns-then-kind_of-eq-KIND_OPERATION : goal.returns-then-kind_of-eq-KIND_OPERATION
returns-then-kind_of-eq-KIND_OPERATION c = let a = c.args in
    seeks_here a.rows.now a.n (is kind_operation) a.from c.loop-i.i c.loop-i.invariant c.loop-i-test.true (eq-eqb _ _ (sym c.kind_of.ensures ∙ c.if-kind_of-eq-KIND_OPERATION.true))

pub loop-i-preserved : goal.loop-i-preserved
loop-i-preserved c = let a = c.args in
    seeks_on a.rows.now a.n (is kind_operation) a.from c.loop-i.i c.loop-i.invariant c.loop-i-test.true (ne_eqb _ _ (λ q. c.if-kind_of-eq-KIND_OPERATION.false (c.kind_of.ensures ∙ q)))

pub returns : goal.returns
returns c = let a = c.args in
    seeks_end a.rows.now a.n (is kind_operation) a.from c.loop-i.i c.loop-i.invariant c.loop-i-test.false
