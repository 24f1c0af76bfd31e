-- Whatever the seed.
use mathlib.Core.Path.{refl, ◌∙◌}
use native.Mathlib.Omega.{arith}
use Rattle.query_rows.proofs.RowsIn.{rows_count}
use Rattle.plan_keys.proofs.Filing.{filed_all}
use Rattle.plan_keys.proofs.number_keys.Goals as goal

pub loop-seed-init : goal.loop-seed-init
loop-seed-init c = (refl, refl, refl, λ h. absurd (omega (arith, h)))

pub number_by-requires : goal.number_by-requires
number_by-requires c = let l = c.loop-seed.invariant in
    (c.requires.0, l.0 ∙ c.requires.1, l.1 ∙ c.requires.2, l.2 ∙ c.requires.3)

pub returns-then-not-number_by : goal.returns-then-not-number_by
returns-then-not-number_by c = filed_all _ _ _ _ _ _ (rows_count c.args.rows.now c.args.n) c.number_by.ensures

pub loop-seed-preserved : goal.loop-seed-preserved
loop-seed-preserved c = let l = c.loop-seed.invariant in
    let k = c.number_by.auto in
    (k.head ∙ l.0, k.next ∙ l.1, k.keys ∙ l.2, λ h. filed_all _ _ _ _ _ _ (rows_count c.args.rows.now c.args.n) c.number_by.ensures)

pub returns : goal.returns
returns c = c.loop-seed.invariant.3 (omega (arith, c.loop-seed-test.false))
