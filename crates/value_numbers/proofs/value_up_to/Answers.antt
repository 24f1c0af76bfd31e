-- `value_numbers::value_up_to` meets its contract: the value so far, gone on with the value_numbers left, is the value of all.
-- Assumes nothing.
use mathlib.Core.Path.{◌≡◌, refl, sym, ap, ◌∙◌}
use Prim.Native.Nat.{ℕ, ◌+◌, ◌*◌}
use native.Mathlib.Omega.{arith}
use lib.ListN.{drop}
use Rattle.paper_values.specs.NumberTokens.{value_from, value_of}
use Rattle.value_numbers.proofs.ValueLaws.{value_grows, value_step, value_end, capped_over, capped_within}
use Rattle.value_numbers.proofs.value_up_to.Goals as goal

pub loop-i-init : goal.loop-i-init
loop-i-init c = (refl, omega arith)

pub overflow_add-v : goal.overflow_add-v
overflow_add-v c = let l = c.loop-i in
    omega (arith, c.digit.ensures, c.shared_slice_known-in-loop-i-1.given l.i, l.invariant.1, c.requires)

pub returns-then-limit-v : goal.returns-then-limit-v
returns-then-limit-v c = let a = c.args in let l = c.loop-i in
    let v = 10 * l.v + c.digit.result in
    let q : value_from v (drop (l.i + 1) a.s.now) ≡ value_of (drop a.from a.s.now)
    = ap (λ (d : ℕ). value_from (10 * l.v + d) (drop (l.i + 1) a.s.now)) c.digit.ensures
    ∙ sym (value_step l.v a.s.now l.i c.loop-i-test.true) ∙ l.invariant.0 in
    capped_over a.limit (value_of (drop a.from a.s.now)) (omega (arith, q, value_grows v (drop (l.i + 1) a.s.now), c.if-limit-v.true))

pub loop-i-preserved : goal.loop-i-preserved
loop-i-preserved c = let a = c.args in let l = c.loop-i in (
  ap (λ (d : ℕ). value_from (10 * l.v + d) (drop (l.i + 1) a.s.now)) c.digit.ensures
      ∙ sym (value_step l.v a.s.now l.i c.loop-i-test.true) ∙ l.invariant.0,
  c.if-limit-v.false,
)

pub returns : goal.returns
returns c = let a = c.args in let l = c.loop-i in
    let q : l.v ≡ value_of (drop a.from a.s.now) = sym (value_end l.v a.s.now l.i c.loop-i-test.false) ∙ l.invariant.0 in
    q ∙ capped_within a.limit (value_of (drop a.from a.s.now)) (omega (arith, q, l.invariant.1))
