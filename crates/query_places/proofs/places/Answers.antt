-- Row by row.
use mathlib.Core.Path.{◌≡◌, sym, subst, ◌∙◌}
use native.Mathlib.Omega.{arith}
use Rattle.query_places.specs.Placed.{PlacedTo}
use Rattle.query_places.proofs.PlacedLaws.{placed_start}
use Rattle.query_places.proofs.places.Goals as goal

pub loop-i-init : goal.loop-i-init
loop-i-init c = placed_start c.args.t.now c.args.book.now c.args.es.now c.args.s.now c.args.rows.now c.args.n c.requires.3 c.args.at.now c.args.wrappers.now c.requires.4

pub keep_place-requires : goal.keep_place-requires
keep_place-requires c = (c.requires.0, c.requires.1, c.requires.2, c.requires.3, c.loop-i.invariant, c.loop-i-test.true)

pub loop-i-preserved : goal.loop-i-preserved
loop-i-preserved c = c.keep_place.ensures

pub shape_of-at : goal.shape_of-at
shape_of-at c = c.loop-i.invariant.enclosed.ats ∙ sym c.requires.4.ats

pub shape_of-wrappers : goal.shape_of-wrappers
shape_of-wrappers c = c.loop-i.invariant.enclosed.inners ∙ sym c.requires.4.inners

pub returns : goal.returns
returns c = let a = c.args in
    let l = c.loop-i in
    let e : l.i ≡ a.n = omega (arith, c.loop-i-test.false) in
    record { book = a.book.now; all = subst (λ k. PlacedTo a.t.now a.book.now a.es.now a.s.now a.rows.now a.n l.at l.wrappers k) e l.invariant }
