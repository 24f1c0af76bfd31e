use mathlib.Core.Path.{sym, ◌∙◌}
use native.Mathlib.Omega.{arith}
use borrow.Author.Tests.{eq-eqb, ne_eqb}
use Rattle.query_rows.specs.Rowed.{rows_in}
use Rattle.query_rows.proofs.RowsIn.{rows_count}
use Rattle.plan_rows.specs.Ranks.{is_fragment}
use Rattle.plan_rows.proofs.RankLaws.{rank_most, ranked_start, ranked_yes, ranked_no}
use Rattle.plan_rows.proofs.rank_fragments.Goals as goal

pub loop-i-init : goal.loop-i-init
loop-i-init c = ranked_start is_fragment (rows_in c.args.rows.now c.args.n) _

pub bounds-ranks-i : goal.bounds-ranks-i
bounds-ranks-i c = omega (arith, c.requires.1, c.loop-i.invariant.size, c.loop-i-test.true)

pub overflow_add-k : goal.overflow_add-k
overflow_add-k c = let l = c.loop-i in
    omega (arith, l.invariant.is, rank_most is_fragment (rows_in c.args.rows.now c.args.n) l.i, c.loop-i-test.true, c.requires.0.few)

pub loop-i-preserved-then-kind_of-ne-KIND_FRAGMENT : goal.loop-i-preserved-then-kind_of-ne-KIND_FRAGMENT
loop-i-preserved-then-kind_of-ne-KIND_FRAGMENT c = let a = c.args in
    let l = c.loop-i in
    let t = c.loop-i-test.true in
    ranked_no is_fragment (rows_in a.rows.now a.n) _ _ l.k l.i l.invariant (omega (arith, t, rows_count a.rows.now a.n)) (omega (arith, t, c.requires.1, l.invariant.size)) (ne_eqb _ _ (λ q. c.if-kind_of-ne-KIND_FRAGMENT.true (c.kind_of.ensures ∙ q)))

pub loop-i-preserved : goal.loop-i-preserved
loop-i-preserved c = let a = c.args in
    let l = c.loop-i in
    let t = c.loop-i-test.true in
    ranked_yes is_fragment (rows_in a.rows.now a.n) _ _ l.k l.i l.invariant (omega (arith, t, rows_count a.rows.now a.n)) (omega (arith, t, c.requires.1, l.invariant.size)) (eq-eqb _ _ (sym c.kind_of.ensures ∙ c.if-kind_of-ne-KIND_FRAGMENT.false))

pub shape_of-ranks : goal.shape_of-ranks
shape_of-ranks c = c.loop-i.invariant.size

pub returns : goal.returns
returns c = let l = c.loop-i in
    record { long = omega (arith, c.requires.1, l.invariant.size); right = λ j h. l.invariant.right j (omega (arith, c.loop-i-test.false)) }
