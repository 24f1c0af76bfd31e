-- `run::walk_block` meets its contract: what is left of the walk, from the state that the buffers hold, gives what the whole gives.
--
use mathlib.Core.Path.{sym, ◌∙◌}
use Prim.Native.Nat.{◌+◌, ◌*◌}
use native.Mathlib.Omega.{arith}
use lib.ListN.{length-set}
use Rattle.plan_walk_steps.proofs.Laws.{formed, goes_first, goes_listed, goes_left, goes_marked, goes_past, goes_over, goes_done}
use Rattle.plan_walk_steps.proofs.walk_block.Goals as goal

pub loop-i-init : goal.loop-i-init
loop-i-init c = goes_first _ _ _ _ _ _ _ _ c.requires

pub returns-then-n-eq-MOST_PAIRS : goal.returns-then-n-eq-MOST_PAIRS
returns-then-n-eq-MOST_PAIRS c = goes_over _ _ _ _ _ _ _ _ c.requires _ _ c.loop-i.i c.loop-i.n c.loop-i.invariant c.loop-i-test.true c.if-kind-eq-STEP_LIST.true c.if-n-eq-MOST_PAIRS.true _ _

pub bounds-out-n-then-kind-eq-STEP_LIST : goal.bounds-out-n-then-kind-eq-STEP_LIST
bounds-out-n-then-kind-eq-STEP_LIST c = simp length-set (omega (arith, c.loop-i.invariant.out_size, c.requires.out_long, c.loop-i.invariant.few, c.if-n-eq-MOST_PAIRS.false))

pub loop-i-preserved-then-kind-eq-STEP_LIST : goal.loop-i-preserved-then-kind-eq-STEP_LIST
loop-i-preserved-then-kind-eq-STEP_LIST c = goes_listed _ _ _ _ _ _ _ _ c.requires _ _ c.loop-i.i c.loop-i.n c.loop-i.invariant c.loop-i-test.true c.if-kind-eq-STEP_LIST.true c.if-n-eq-MOST_PAIRS.false

pub overflow_cast-first : goal.overflow_cast-first
overflow_cast-first c = omega (arith, c.shared_slice_known-in-loop-i-3-1.given (2051 + 3 * c.loop-i.i))

pub leaves-requires : goal.leaves-requires
leaves-requires c = let f = (formed _ _ _ _ _ _ _ _ c.requires _ _ c.loop-i.i c.loop-i.n c.loop-i.invariant c.loop-i-test.true) in
    (f.low, omega (arith, f.high, c.if-kind-eq-STEP_LIST.false), f.type, λ not-3. f.index not-3 c.if-kind-eq-STEP_LIST.false, c.requires.vars_long, c.requires.fits_long, omega (arith, c.loop-i.invariant.met_size, c.requires.met_long))

pub overflow_cast-i : goal.overflow_cast-i
overflow_cast-i c = omega (arith, c.shared_slice_known-in-loop-i-3-1.given (2052 + 3 * c.loop-i.i))

pub loop-i-smaller-then-leaves : goal.loop-i-smaller-then-leaves
loop-i-smaller-then-leaves c = let f = (formed _ _ _ _ _ _ _ _ c.requires _ _ c.loop-i.i c.loop-i.n c.loop-i.invariant c.loop-i-test.true) in omega (arith, f.ahead c.if-kind-eq-STEP_LIST.false, c.loop-i-test.true)

pub loop-i-preserved-then-leaves : goal.loop-i-preserved-then-leaves
loop-i-preserved-then-leaves c = goes_left _ _ _ _ _ _ _ _ c.requires _ _ c.loop-i.i c.loop-i.n c.loop-i.invariant c.loop-i-test.true c.if-kind-eq-STEP_LIST.false (λ l q. sym c.if-leaves.true ∙ c.leaves.ensures l q)

pub overflow_cast-met : goal.overflow_cast-met
overflow_cast-met c = omega (arith, c.shared_slice_known-in-loop-i-3-1.given (2051 + 3 * c.loop-i.i))

pub bounds-met-first : goal.bounds-met-first
bounds-met-first c = let f = (formed _ _ _ _ _ _ _ _ c.requires _ _ c.loop-i.i c.loop-i.n c.loop-i.invariant c.loop-i-test.true) in
    omega (arith, f.index (λ e. omega (arith, e, c.if-kind-eq-STEP_IF_MET.true)) c.if-kind-eq-STEP_LIST.false, c.loop-i.invariant.met_size, c.requires.met_long)

pub loop-i-preserved-then-kind-eq-STEP_IF_MET : goal.loop-i-preserved-then-kind-eq-STEP_IF_MET
loop-i-preserved-then-kind-eq-STEP_IF_MET c = goes_marked _ _ _ _ _ _ _ _ c.requires _ _ c.loop-i.i c.loop-i.n c.loop-i.invariant c.loop-i-test.true c.if-kind-eq-STEP_IF_MET.true (λ l q. sym c.if-leaves.false ∙ c.leaves.ensures l q)

pub loop-i-preserved : goal.loop-i-preserved
loop-i-preserved c = goes_past _ _ _ _ _ _ _ _ c.requires _ _ c.loop-i.i c.loop-i.n c.loop-i.invariant c.loop-i-test.true c.if-kind-eq-STEP_LIST.false c.if-kind-eq-STEP_IF_MET.false (λ l q. sym c.if-leaves.false ∙ c.leaves.ensures l q)

pub shape_of-met : goal.shape_of-met
shape_of-met c = c.loop-i.invariant.met_size

pub shape_of-out : goal.shape_of-out
shape_of-out c = c.loop-i.invariant.out_size

pub returns : goal.returns
returns c = goes_done _ _ _ _ _ _ _ _ c.requires _ _ c.loop-i.i c.loop-i.n c.loop-i.invariant c.loop-i-test.false
