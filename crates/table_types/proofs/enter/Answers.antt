-- The name in the content, then five stores.
use native.Mathlib.Omega.{arith}
use Rattle.table_types.proofs.Recording.{entering_is}
use Rattle.table_types.proofs.enter.Goals as goal

pub put_entry-requires : goal.put_entry-requires
put_entry-requires c = let p = c.requires in
    let m = c.name_in-m.ensures.within in
    (p.1, p.2, omega (arith, m, p.0.most), omega (arith, m, p.0.most), omega (arith, p.0.order, p.0.within, p.0.most), omega (arith, p.0.within, p.0.most))

pub returns : goal.returns
returns c = let a = c.args in
    entering_is a.t.now a.book.now _ a.i a.tag a.start a.end _ _ c.requires.0.order c.requires.0.within c.name_in-m.ensures c.put_entry.ensures
