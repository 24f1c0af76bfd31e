-- `value_writing::copy` meets its contract: after j turns, j bytes are copied.
use mathlib.Core.Path.{refl, ap, ◌∙◌}
use mathlib.Core.List.{List}
use Prim.Native.Nat.{ℕ, ◌+◌}
use lib.ListN.{length, get_or, set, take}
use lib.Seq.{sets, length-sets, take_all}
use Rattle.value_writing.proofs.StoreLaws.{copy_step}
use Rattle.value_writing.proofs.copy.Goals as goal

pub loop-j-init : goal.loop-j-init
loop-j-init c = (refl, refl)

pub loop-j-preserved : goal.loop-j-preserved
loop-j-preserved c = let a = c.args in
    let l = c.loop-j in
    let e = ap (λ (x : List ℕ). set x (a.from + l.j) (get_or a.s.now l.j 0)) l.invariant.0 ∙ copy_step a.out.now a.s.now a.from l.j c.loop-j-test.true in
    (e, ap length e ∙ length-sets a.out.now a.from (take (l.j + 1) a.s.now))

pub returns : goal.returns
returns c = let a = c.args in
    c.loop-j.invariant.0 ∙ ap (sets a.out.now a.from) (take_all c.loop-j.j a.s.now c.loop-j-test.false)
