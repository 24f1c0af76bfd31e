-- `value_ones::close_ones` meets its contract: before each turn the heads from number j on are put.
use mathlib.Core.Path.{◌≡◌, sym, ap, subst, ◌∙◌}
use Prim.Native.Nat.{ℕ, ◌+◌, ◌-◌, ◌*◌, ◌≤◌}
use native.Mathlib.Omega.{arith}
use Rattle.paper_values.specs.ValueNumbers.{tag_list}
use Rattle.value_writing.specs.Writing.{place_of, Behind, Closed}
use Rattle.value_kinds.specs.Dues.{Told}
use Rattle.std.proofs.Common.{Ok}
use Rattle.value_ones.specs.Ones.{ones}
use Rattle.value_ones.proofs.OnesLaws.{head_first, head_behind, ones_more}
use Rattle.value_ones.proofs.close_ones.Goals as goal

pub loop-j-init : goal.loop-j-init
loop-j-init c = let a = c.args in let q = c.requires in let z : a.m - a.m ≡ 0 = omega arith in (
  omega arith,
  q.end,
  q.order,
  q.size,
  λ text o p g. subst (λ (x : ℕ). Told text a.limit (ones x o) (place_of a.limit (a.from + 3 * a.m)) p a.out.now (Ok a.at)) (sym z) g,
)

pub overflow_mul-j : goal.overflow_mul-j
overflow_mul-j c = omega (arith, c.loop-j.invariant.0, c.requires.few)

pub place-head-requires : goal.place-head-requires
place-head-requires c = let q = c.requires in (q.least, q.place, omega (arith, c.loop-j.invariant.0, q.few))

pub close-e-requires : goal.close-e-requires
close-e-requires c = let a = c.args in let l = c.loop-j in
    subst (λ (x : ℕ). Behind a.limit x l.e l.out) (sym c.place-head.ensures) (head_behind a.limit a.from l.j l.e l.out c.loop-j-test.true c.requires.least l.invariant.1 l.invariant.2 l.invariant.3)

pub loop-j-preserved : goal.loop-j-preserved
loop-j-preserved c = let a = c.args in let l = c.loop-j in let k = c.close-e in (
  omega (arith, l.invariant.0),
  omega (arith, l.invariant.1, k.ensures.0),
  λ h. (let z : l.e ≤ a.limit = omega (arith, h, k.ensures.0) in let y = l.invariant.2 z in omega (arith, y, k.ensures.0)),
  k.auto.out ∙ l.invariant.3,
  λ text o p g. ones_more a.limit a.from text p o a.m l.j l.e _ l.out _ c.loop-j-test.true l.invariant.0 (l.invariant.4 text o p g)
      (subst (λ (x : ℕ). Closed a.limit x tag_list l.e l.out k.new.out k.result) c.place-head.ensures k.ensures),
)

pub shape_of-out : goal.shape_of-out
shape_of-out c = c.loop-j.invariant.3 ∙ sym c.requires.size

pub returns : goal.returns
returns c = let a = c.args in let l = c.loop-j in
    let z : l.j ≡ 0 = omega (arith, c.loop-j-test.false) in let y : a.m - l.j ≡ a.m = omega (arith, z) in
    λ text o p g.
    subst (λ (x : ℕ). Told text a.limit (ones a.m o) x p l.out (Ok l.e)) (ap (λ (x : ℕ). place_of a.limit (a.from + 3 * x)) z ∙ head_first a.limit a.from c.requires.place)
    (subst (λ (x : ℕ). Told text a.limit (ones x o) (place_of a.limit (a.from + 3 * l.j)) p l.out (Ok l.e)) y (l.invariant.4 text o p g))
