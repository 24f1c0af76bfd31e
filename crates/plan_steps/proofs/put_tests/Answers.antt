-- After j turns, j tests are written.
use mathlib.Core.Path.{◌≡◌, refl, ap, ◌∙◌}
use Prim.Native.Nat.{ℕ, ◌+◌, ◌*◌}
use native.Mathlib.Omega.{arith}
use lib.ListN.{length}
use lib.Seq.{sets, length-sets}
use Rattle.plan_steps.specs.Table.{flat_raw, raw_tests, count}
use Rattle.plan_steps.proofs.Writes.{tests_turn}
use Rattle.plan_steps.proofs.put_tests.Goals as goal

pub overflow_mul-from : goal.overflow_mul-from
overflow_mul-from c = omega (arith, c.requires.0.1)

pub overflow_add-from : goal.overflow_add-from
overflow_add-from c = omega (arith, c.requires.0.1)

pub loop-j-init : goal.loop-j-init
unfolding raw_tests
loop-j-init c = (refl, omega arith, refl)

pub bounds-t-from : goal.bounds-t-from
bounds-t-from c = omega (arith, c.loop-j-test.true, c.count_of-m.ensures, c.requires.1, c.requires.0.0)

pub bounds-t-from-in-loop-j : goal.bounds-t-from-in-loop-j
bounds-t-from-in-loop-j c = omega (arith, c.loop-j-test.true, c.count_of-m.ensures, c.requires.1, c.requires.0.0)

pub put-requires : goal.put-requires
put-requires c = (omega (arith, c.loop-j-test.true, c.count_of-m.ensures, c.requires.2), omega (arith, c.loop-j.invariant.2, c.requires.4))

pub loop-j-preserved : goal.loop-j-preserved
loop-j-preserved c = let a = c.args in let l = c.loop-j in let from = 12 * a.r + 4 in
    let e = tests_turn a.t.now a.p.now l.p _ from a.at l.j a.end l.invariant.0 c.number.ensures c.number-in-loop-j.ensures c.put.ensures in
    (e, omega arith, ap length e ∙ length-sets a.p.now (2050 + 3 * a.at) (flat_raw (raw_tests a.t.now from (l.j + 1) a.end)))

pub returns : goal.returns
returns c = let a = c.args in let l = c.loop-j in let all : l.j ≡ count a.t.now a.r = omega (arith, c.count_of-m.ensures, c.loop-j-test.false, l.invariant.1) in
    l.invariant.0 ∙ ap (λ (n : ℕ). sets a.p.now (2050 + 3 * a.at) (flat_raw (raw_tests a.t.now (12 * a.r + 4) n a.end))) all
