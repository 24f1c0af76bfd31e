-- A walk over the tags.
use mathlib.Core.Path.{◌≡◌, sym, ◌∙◌}
use native.Mathlib.Omega.{arith}
use borrow.Author.Tests.{eq-eqb, ne_eqb}
use Rattle.paper_table.specs.TableNumbers.{tag_roots}
use Rattle.paper_table.specs.Types.{table_of, is_roots, blank_definition, tag_nothing}
use Rattle.table_types.specs.Booked.{definition_on}
use Rattle.table_types.proofs.Entries.{tag_entered, reached_start, reached_end, reached_here, reached_on}
use Rattle.table_types.proofs.first_roots.Goals as goal

pub count_of-count-requires : goal.count_of-count-requires
count_of-count-requires c = c.requires.indexed.held.cells

pub loop-i-init : goal.loop-i-init
loop-i-init c = reached_start is_roots (table_of c.args.t.now)

pub kind_of-requires : goal.kind_of-requires
kind_of-requires c = (c.requires.indexed.held.cells, omega (arith, c.loop-i-test.true, c.count_of-count.ensures, c.requires.indexed.held.most))

pub returns-then-kind_of-eq-RECORD_ROOTS : goal.returns-then-kind_of-eq-RECORD_ROOTS
returns-then-kind_of-eq-RECORD_ROOTS c = let a = c.args in
    let b = c.requires in
    let i = c.loop-i.i in
    let e = tag_entered a.t.now a.book.now b i (omega (arith, c.loop-i-test.true, c.count_of-count.ensures)) c.kind_of.ensures in
    reached_here is_roots (table_of a.t.now) i c.loop-i.invariant (blank_definition tag_nothing) (omega (arith, c.loop-i-test.true, c.count_of-count.ensures, b.count)) (eq-eqb (definition_on a.t.now i).tag tag_roots (sym e ∙ c.if-kind_of-eq-RECORD_ROOTS.true))

pub loop-i-preserved : goal.loop-i-preserved
loop-i-preserved c = let a = c.args in
    let b = c.requires in
    let i = c.loop-i.i in
    let e = tag_entered a.t.now a.book.now b i (omega (arith, c.loop-i-test.true, c.count_of-count.ensures)) c.kind_of.ensures in
    reached_on is_roots (table_of a.t.now) i c.loop-i.invariant (blank_definition tag_nothing) (omega (arith, c.loop-i-test.true, c.count_of-count.ensures, b.count)) (ne_eqb (definition_on a.t.now i).tag tag_roots (λ q. c.if-kind_of-eq-RECORD_ROOTS.false (e ∙ q)))

pub returns : goal.returns
returns c =
    let e : c.count_of-count.result ≡ c.loop-i.i = omega (arith, c.loop-i-test.false, c.loop-i.auto.i-end) in
    e ∙ reached_end is_roots (table_of c.args.t.now) c.loop-i.i c.loop-i.invariant (omega (arith, c.loop-i-test.false, c.count_of-count.ensures, c.requires.count))
