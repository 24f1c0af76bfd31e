-- `value_ones::lists_in` meets its contract: of a type with these wrappers, m lists are counted and a type with w is left.
use mathlib.Core.Path.{◌≡◌, ap, ◌∙◌}
use Prim.Native.Nat.{ℕ, ◌/◌, ◌%◌}
use native.Mathlib.Omega.{arith}
use Rattle.table_fields.specs.Wrappers.{pack_of}
use Rattle.value_ones.specs.Ones.{lists_of}
use Rattle.value_ones.proofs.PackLaws.{pack_less, pack_none}
use Rattle.value_ones.proofs.lists_in.Goals as goal

pub loop-w-init : goal.loop-w-init
loop-w-init c = (omega arith, λ r e. (r, e, omega arith))

pub loop-w-preserved : goal.loop-w-preserved
loop-w-preserved c = let l = c.loop-w in (
  omega (arith, l.invariant.0),
  λ r e.
      let z = l.invariant.1 r e in
      let y = pack_less z.0 (rw z.1 c.loop-w-test.true) in
      (y.0, y.1 ∙ ap (λ (x : ℕ). x / 4) z.1, (let u : pack_of z.0 % 2 ≡ l.w % 2 = ap (λ (x : ℕ). x % 2) z.1 in omega (arith, u, y.2, z.2))),
)

pub returns : goal.returns
returns c = let l = c.loop-w in (
  omega (arith, l.invariant.0, c.requires),
  λ r e.
      let z = l.invariant.1 r e in
      let y : lists_of z.0 ≡ 0 = pack_none z.0 (let u = z.1 in omega (arith, u, c.loop-w-test.false)) in omega (arith, y, z.2),
)
