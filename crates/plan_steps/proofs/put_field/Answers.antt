-- The field's step, and then its tests before it.
use mathlib.Core.Logic.{inl, inr}
use native.Mathlib.Omega.{arith}
use Rattle.plan_steps.proofs.Writes.{field_of, field_over}
use Rattle.plan_steps.proofs.put_field.Goals as goal

pub returns-then-own-ge-STEPS : goal.returns-then-own-ge-STEPS
returns-then-own-ge-STEPS c = inr (field_over c.args.t.now c.args.at c.args.r (omega (arith, c.if-own-ge-STEPS.true, c.count_of.ensures)))

pub overflow_cast-behind_of : goal.overflow_cast-behind_of
overflow_cast-behind_of c = omega (arith, c.behind_of.ensures, c.requires.2)

pub put_tests-requires : goal.put_tests-requires
put_tests-requires c = (c.requires.0, c.requires.1, omega (arith, c.if-own-ge-STEPS.false, c.count_of.ensures), omega (arith, c.if-own-ge-STEPS.false), omega (arith, c.p-1.given, c.requires.4))

pub returns : goal.returns
returns c = inl (field_of c.args.t.now c.args.at c.args.r c.args.p.now _ _ c.count_of.ensures c.behind_of.ensures (omega (arith, c.if-own-ge-STEPS.false)) c.put.ensures c.put_tests.ensures)
