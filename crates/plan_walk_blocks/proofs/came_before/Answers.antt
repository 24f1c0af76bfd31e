use mathlib.Core.Path.{◌≡◌, refl, sym, ap, ◌∙◌}
use Prim.Native.Nat.{ℕ}
use native.Mathlib.Omega.{arith}
use Rattle.plan_walk_blocks.specs.Answers.{before}
use Rattle.plan_walk_blocks.proofs.GroupLaws.{before_found, before_on, before_none}
use Rattle.plan_walk_blocks.proofs.came_before.Goals as goal

pub loop-j-init : goal.loop-j-init
loop-j-init c = (omega arith, refl)

pub returns-then-found-j : goal.returns-then-found-j
returns-then-found-j c = let a = c.args in
    let l = c.loop-j in
    sym (l.invariant.1 ∙ before_found a.found.now a.key l.j c.loop-j-test.true c.if-found-j.true)

pub loop-j-preserved : goal.loop-j-preserved
loop-j-preserved c = let a = c.args in
    let l = c.loop-j in
    (omega (arith, l.invariant.0), l.invariant.1 ∙ before_on a.found.now a.key l.j c.loop-j-test.true c.if-found-j.false)

pub returns : goal.returns
returns c = let a = c.args in
    let l = c.loop-j in
    let z : l.j ≡ 0 = omega (arith, c.loop-j-test.false) in
    sym (l.invariant.1 ∙ ap (λ (k : ℕ). before a.found.now k a.key) z ∙ before_none a.found.now a.key)
