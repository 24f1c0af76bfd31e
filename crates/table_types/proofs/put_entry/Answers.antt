-- Five stores.
use native.Mathlib.Omega.{arith}
use Rattle.table_types.proofs.Recording.{put_is, l1, l2, l3, l4}
use Rattle.table_types.proofs.put_entry.Goals as goal

pub bounds-book-i-2 : goal.bounds-book-i-2
bounds-book-i-2 c = let a = c.args in
    omega (arith, l1 a.book.now a.i a.tag a.name a.size a.start a.end c.requires.0 c.requires.1, c.requires.1)

pub bounds-book-i-3 : goal.bounds-book-i-3
bounds-book-i-3 c = let a = c.args in
    omega (arith, l2 a.book.now a.i a.tag a.name a.size a.start a.end c.requires.0 c.requires.1, c.requires.1)

pub bounds-book-i-4 : goal.bounds-book-i-4
bounds-book-i-4 c = let a = c.args in
    omega (arith, l3 a.book.now a.i a.tag a.name a.size a.start a.end c.requires.0 c.requires.1, c.requires.1)

pub bounds-book-i-5 : goal.bounds-book-i-5
bounds-book-i-5 c = let a = c.args in
    omega (arith, l4 a.book.now a.i a.tag a.name a.size a.start a.end c.requires.0 c.requires.1, c.requires.1)

pub returns : goal.returns
returns c = let a = c.args in
    put_is a.book.now a.i a.tag a.name a.size a.start a.end c.requires.0 c.requires.1
