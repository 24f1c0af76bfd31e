-- `value_ones::nullable` meets its contract: of a type with these wrappers one is left that is the same without Non-Null outside.
use mathlib.Core.Path.{◌≡◌, refl, sym, ap, ◌∙◌}
use Prim.Native.Nat.{ℕ, ◌/◌, ◌%◌}
use native.Mathlib.Omega.{arith}
use Rattle.table_fields.specs.Wrappers.{pack_of}
use Rattle.value_ones.proofs.PackLaws.{pack_marked, pack_bare}
use Rattle.value_ones.proofs.nullable.Goals as goal

pub loop-rest-init : goal.loop-rest-init
loop-rest-init c = (omega arith, λ r e. (r, e, refl))

pub loop-rest-smaller : goal.loop-rest-smaller
loop-rest-smaller c = omega (arith, c.loop-rest-test.true)

pub loop-rest-preserved : goal.loop-rest-preserved
loop-rest-preserved c = let l = c.loop-rest in (
  omega (arith, l.invariant.0),
  λ r e.
      let z = l.invariant.1 r e in
      let y = pack_marked z.0 (ap (λ (x : ℕ). x % 4) z.1 ∙ c.loop-rest-test.true) in (y.0, y.1 ∙ ap (λ (x : ℕ). x / 4) z.1, y.2 ∙ z.2),
)

pub returns : goal.returns
returns c = let l = c.loop-rest in (
  l.invariant.0,
  c.loop-rest-test.false,
  λ r e.
      let z = l.invariant.1 r e in
      ap pack_of (sym z.2 ∙ pack_bare z.0 (λ (x : pack_of z.0 % 4 ≡ 2). c.loop-rest-test.false (ap (λ (x : ℕ). x % 4) (sym z.1) ∙ x))) ∙ z.1,
)
