-- Row by row.
use mathlib.Core.Path.{◌≡◌, sym, subst, ◌∙◌}
use Prim.Native.Nat.{ℕ}
use native.Mathlib.Omega.{arith}
use native.Mathlib.Numerals.{add-one}
use Rattle.query_inside.specs.Enclosed.{EnclosedTo}
use Rattle.query_inside.proofs.EnclosedLaws.{enclosed_begin}
use Rattle.query_inside.proofs.enclose.Goals as goal

pub loop-i-init : goal.loop-i-init
loop-i-init c = let a = c.args in
    let g = c.requires in
    enclosed_begin a.t.now a.s.now a.rows.now a.n g.0.rowed g.2 g.3

pub enclose_row-requires : goal.enclose_row-requires
enclose_row-requires c = (c.requires.0, c.requires.1, c.loop-i.invariant, c.loop-i-test.true)

pub loop-i-preserved : goal.loop-i-preserved
loop-i-preserved c = rw (add-one) c.enclose_row.ensures

pub shape_of-inside : goal.shape_of-inside
shape_of-inside c = c.loop-i.invariant.inners ∙ sym c.requires.2

pub shape_of-at : goal.shape_of-at
shape_of-at c = c.loop-i.invariant.ats ∙ sym c.requires.3

pub returns : goal.returns
returns c = let a = c.args in
    let l = c.loop-i in
    let e : l.i ≡ a.n = omega (arith, c.loop-i-test.false) in
    subst (λ (m : ℕ). EnclosedTo a.t.now a.book.now a.es.now a.s.now a.rows.now a.n m l.inside l.at) e l.invariant
