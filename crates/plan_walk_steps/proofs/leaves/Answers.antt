-- `run::leaves` meets its contract: one case a kind.
use mathlib.Core.Path.{◌≡◌, sym, ap, ◌∙◌}
use native.Mathlib.Omega.{arith}
use Rattle.paper_plan.specs.Planning.{Test, says}
use Rattle.plan_walk_steps.specs.Numbers.{is_one}
use Rattle.plan_walk_steps.proofs.Laws.{test_1, test_2, test_3, test_4}
use Rattle.plan_walk_steps.proofs.leaves.Goals as goal

pub bounds-vars-first : goal.bounds-vars-first
bounds-vars-first c = omega (arith, c.requires.3 (λ (e : c.args.kind ≡ 3). omega (arith, c.if-kind-eq-STEP_IF_TRUE.true)))

pub returns-then-kind-eq-STEP_IF_TRUE : goal.returns-then-kind-eq-STEP_IF_TRUE
returns-then-kind-eq-STEP_IF_TRUE c = λ l h. sym (ap (λ (t : Test). says (is_one c.args.vars.now) (is_one c.args.fits.now) t l) (test_1 c.args.kind c.args.first c.if-kind-eq-STEP_IF_TRUE.true))

pub bounds-vars-first-then-kind-eq-STEP_UNLESS_TRUE : goal.bounds-vars-first-then-kind-eq-STEP_UNLESS_TRUE
bounds-vars-first-then-kind-eq-STEP_UNLESS_TRUE c = omega (arith, c.requires.3 (λ (e : c.args.kind ≡ 3). omega (arith, c.if-kind-eq-STEP_UNLESS_TRUE.true)))

pub returns-then-kind-eq-STEP_UNLESS_TRUE : goal.returns-then-kind-eq-STEP_UNLESS_TRUE
returns-then-kind-eq-STEP_UNLESS_TRUE c = λ l h. sym (ap (λ (t : Test). says (is_one c.args.vars.now) (is_one c.args.fits.now) t l) (test_2 c.args.kind c.args.first c.if-kind-eq-STEP_UNLESS_TRUE.true))

pub bounds-fits-first : goal.bounds-fits-first
bounds-fits-first c = omega (arith, c.requires.2 c.if-kind-eq-STEP_UNLESS_APPLIES.true)

pub returns-then-kind-eq-STEP_UNLESS_APPLIES : goal.returns-then-kind-eq-STEP_UNLESS_APPLIES
returns-then-kind-eq-STEP_UNLESS_APPLIES c = λ l h. sym (ap (λ (t : Test). says (is_one c.args.vars.now) (is_one c.args.fits.now) t l) (test_3 c.args.kind c.args.first c.if-kind-eq-STEP_UNLESS_APPLIES.true))

pub bounds-met-first : goal.bounds-met-first
bounds-met-first c = omega (arith, c.requires.3 c.if-kind-eq-STEP_UNLESS_APPLIES.false)

pub returns : goal.returns
returns c = λ l h. h c.args.first (c.requires.3 c.if-kind-eq-STEP_UNLESS_APPLIES.false) ∙ sym (ap (λ (t : Test). says (is_one c.args.vars.now) (is_one c.args.fits.now) t l) (test_4 c.args.kind c.args.first (omega (arith, c.if-kind-eq-STEP_UNLESS_APPLIES.false, c.if-kind-eq-STEP_UNLESS_TRUE.false, c.if-kind-eq-STEP_IF_TRUE.false))))
