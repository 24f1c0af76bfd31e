-- Byte by byte.
use mathlib.Core.Path.{◌≡◌, refl, sym, ◌∙◌, subst}
use native.Mathlib.Omega.{arith}
use Rattle.paper_table.specs.Types.{table_of}
use Rattle.table_book.specs.Book.{room}
use Rattle.plan_walk_types.specs.Fits.{FitsTo}
use Rattle.plan_walk_types.proofs.FitLaws.{fits_none, fits_more}
use Rattle.plan_walk_types.proofs.fill_fits.Goals as goal

pub loop-k-init : goal.loop-k-init
loop-k-init c = let a = c.args in
    (fits_none (table_of a.t.now) a.o _ c.requires.2, omega arith)

pub bounds-fits-k : goal.bounds-fits-k
bounds-fits-k c = omega (arith, c.loop-k.invariant.0.size, c.loop-k-test.true)

pub loop-k-preserved : goal.loop-k-preserved
loop-k-preserved c = let a = c.args in
    (fits_more (table_of a.t.now) a.o _ _ c.loop-k.k _ c.loop-k.invariant.0 c.loop-k-test.true c.fit_of.ensures refl, omega (arith, c.loop-k-test.true))

pub shape_of-fits : goal.shape_of-fits
shape_of-fits c = c.loop-k.invariant.0.size ∙ sym c.requires.2

pub returns : goal.returns
returns c = let a = c.args in
    let z : c.loop-k.k ≡ room = omega (arith, c.loop-k-test.false, c.loop-k.invariant.1) in
    subst (FitsTo (table_of a.t.now) a.o c.loop-k.fits) z c.loop-k.invariant.0
