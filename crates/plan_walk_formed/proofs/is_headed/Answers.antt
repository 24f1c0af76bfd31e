use mathlib.Core.Path.{refl}
use native.Mathlib.Omega.{arith}
use lib.ListN.{get_or}
use lib.Dec.{eqb}
use Rattle.plan_walk_formed.proofs.FormedLaws.{head_is}
use Rattle.plan_walk_formed.proofs.is_headed.Goals as goal

pub returns : goal.returns
returns c = let p = c.args.p.now in
    head_is p (omega arith) (λ q. omega arith) (omega arith) (omega arith) (eqb (get_or p 2 0) 0) refl
