-- The name that stands at the row's start.
use mathlib.Core.Path.{ap, ◌∙◌}
use Prim.Native.Nat.{ℕ}
use native.Mathlib.Omega.{arith}
use lib.ListN.{drop}
use Rattle.query_rows.specs.Rowed.{row_in}
use Rattle.paper_plan.specs.Keys.{name_front}
use Rattle.plan_keys.proofs.KeyLaws.{front_at, front_none}
use Rattle.plan_keys.proofs.key_of.Goals as goal

pub returns-then-s-start : goal.returns-then-s-start
returns-then-s-start c = let a = c.args in
    let e = c.wide_start-start.ensures ∙ c.start_of.ensures in
    (omega arith, front_none a.s.now (row_in a.rows.now a.n a.i).start (omega (arith, e, c.if-s-start.true)))

pub returns : goal.returns
returns c = let a = c.args in
    let e = c.wide_start-start.ensures ∙ c.start_of.ensures in
    let r = front_at a.s.now c.wide_start-start.result c.name_end-end.result c.if-s-start.false c.name_end-end.ensures in
    (r.0, r.1 ∙ ap (λ (x : ℕ). name_front (drop x a.s.now)) e)
