use mathlib.Core.Path.{◌≡◌, sym, ap, ◌∙◌}
use Prim.Native.Nat.{ℕ, suc, ◌+◌}
use native.Mathlib.Omega.{arith}
use lib.ListN.{get_or}
use Rattle.plan_walk_formed.proofs.FormedLaws.{end_next, end_last}
use Rattle.plan_walk_formed.proofs.end_of.Goals as goal

pub returns-then-b-number_at : goal.returns-then-b-number_at
returns-then-b-number_at c = let a = c.args in
    let z : 3 + a.b ≡ 2 + suc a.b = omega arith in
    c.number_at-then-b-number_at.ensures ∙ ap (λ (k : ℕ). get_or a.p.now k 0) z ∙ sym (end_next a.p.now a.b (omega (arith, c.if-b-number_at.true, c.number_at.ensures)))

pub returns : goal.returns
returns c = let a = c.args in
    c.number_at-2.ensures ∙ sym (end_last a.p.now a.b (omega (arith, c.if-b-number_at.false, c.number_at.ensures)))
